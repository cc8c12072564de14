use Rattle.std.proofs.Common.{arith, map}
use Rattle.std.specs.Prelude.{string_bytes}
use Rattle.secret_options.specs.Arguments.{meaning}
use Rattle.secret_options.proofs.Ends.{filled_unchanged, filled_whole}
use Rattle.secret_options.proofs.arguments.filled.Goals as goal

pub returns-clause-words : goal.returns-clause-words
returns-clause-words c =
    filled_whole meaning (map string_bytes c.loop-part.words.items) c.loop-part.part-index c.args.parts.now _ _
    (omega (arith, c.loop-part-test.false)) c.loop-part.invariant

pub returns-clause-unchanged : goal.returns-clause-unchanged
returns-clause-unchanged c words e =
    filled_unchanged _ _ _ words (returns-clause-words c) e
