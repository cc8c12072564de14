use Rattle.std.proofs.Common.{◌≡◌, map, take}
use Rattle.clap.specs.Walk.{texts}
use Rattle.clap.specs.Simple.{app_of}
use Rattle.cmd_words.specs.Laws.{flag_rule, with_rules}
use Rattle.cmd_words.proofs.parse.with_flags.Given as goal

abbrev pub invariant-loop-name : goal.invariant-loop-name
invariant-loop-name l =
    app_of l.command ≡ with_rules (app_of l.fn.command) (map flag_rule (texts (take l.name-index l.names)))
