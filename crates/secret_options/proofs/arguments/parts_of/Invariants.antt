use Rattle.std.proofs.Common.{◌≡◌, map, drop, string_bytes, None}
use Rattle.secret_options.specs.Arguments.{meaning, parts}
use Rattle.secret_options.specs.Laws.{after, left}
use Rattle.secret_options.proofs.arguments.parts_of.Given as goal

abbrev pub invariant-loop-word : goal.invariant-loop-word
invariant-loop-word l =
    parts None (map string_bytes l.words)
    ≡ after (map meaning l.found.items) (left l.state (map string_bytes (drop l.word-index l.words)))
