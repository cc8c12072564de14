use Rattle.std.proofs.Common.{arith}
use Rattle.cmd_words.proofs.Digits.{bytes_are}
use Rattle.cmd_words.proofs.values.bytes_in.Goals as goal

pub returns : goal.returns
returns c = bytes_are c.loop-i.bytes c.args.digits.now (omega (arith, c.requires.long, c.loop-i.invariant.0)) (λ k lt. c.loop-i.invariant.1 k (omega (arith, c.loop-i.invariant.0)))
