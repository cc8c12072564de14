use Rattle.std.proofs.Common.{arith}
use Rattle.vc_base.proofs.XorBytes.{changed_by_xor}
use Rattle.cipher_base.proofs.xts.xor_into.Goals as goal

pub returns : goal.returns
returns c =
    changed_by_xor c.loop-i.bytes c.args.bytes.now c.args.mask.now c.loop-i.auto.bytes (omega arith)
    (λ k h. c.loop-i.invariant.before k (omega arith))
