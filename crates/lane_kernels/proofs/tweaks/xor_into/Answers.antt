use Rattle.std.proofs.Common.{arith}
use Rattle.vc_base.proofs.XorBytes.{changed_by_xor}
use Rattle.lane_kernels.proofs.tweaks.xor_into.Goals as goal

pub returns : goal.returns
returns c =
    changed_by_xor c.loop-i.a c.args.a.now c.args.b.now c.loop-i.auto.a (omega arith)
    (λ k h. c.loop-i.invariant.before k (omega arith))
