use Rattle.std.proofs.Common.{arith}
use Rattle.vc_base.proofs.XorBytes.{changed_by_xor}
use Rattle.kdf_hmac.proofs.block.xor.Goals as goal

pub returns : goal.returns
returns c =
    changed_by_xor c.bytes.out c.args.x.now c.args.y.now (omega arith) (omega arith)
    (λ k h. c.bytes.invariant.1 k (omega arith))
