use Rattle.std.proofs.Common.{◌≡◌, map, drop, string_bytes}
use Rattle.secret_options.specs.Arguments.{filled, meaning}
use Rattle.secret_options.specs.Laws.{after}
use Rattle.secret_options.proofs.arguments.filled.Given as goal

abbrev pub invariant-loop-part : goal.invariant-loop-part
invariant-loop-part l =
    filled (map meaning l.parts) (map string_bytes l.secrets)
    ≡ after (map string_bytes l.words.items) (filled (map meaning (drop l.part-index l.parts)) (map string_bytes l.left))
