use Rattle.clap.specs.Simple.{app_of}
use Rattle.cmd_words.specs.Laws.{flag_rule}
use Rattle.cmd_words.proofs.Rules.{rules_more, rules_none}
use Rattle.cmd_words.proofs.parse.with_flags.Goals as goal

pub loop-name-init : goal.loop-name-init
loop-name-init c = rules_none (app_of c.args.command)

pub loop-name-preserved : goal.loop-name-preserved
loop-name-preserved c =
    rules_more flag_rule _ _ _ _ c.args.names.now c.loop-name.name-index _ c.loop-name-test.true c.loop-name.invariant
    (c.in_ok-command.ensures.shape c.flag.ensures.local) c.flag.ensures.rule
