use Rattle.std.proofs.Common.{◌≡◌, ◌+◌, ◌-◌, ◌*◌, length, refl, ap, ◌∙◌, arith}
use Rattle.cipher_base.proofs.Loops.{length-put_mid, filled_none, filled_more, filled_all}
use Rattle.vc_base.specs.Words.{block_of}
use Rattle.lane_kernels.specs.Laws.Lanes.{lane}
use Rattle.vc_base.proofs.FourWords.{block_of-bytes}
use Rattle.lane_kernels.proofs.gather.scatter.Goals as goal

pub loop-j-init : goal.loop-j-init
loop-j-init c = record { long = c.requires; filled = filled_none _ _ _ _ refl }

pub loop-j-preserved : goal.loop-j-preserved
loop-j-preserved c =
    let inv = c.loop-j.invariant in
    let long = inv.long in
    let j = c.loop-j.j in
    let new = c.copy_from_slice.new.self in
    let written : new ≡ block_of (lane j c.args.x) = c.copy_from_slice.ensures.after ∙ c.bytes.ensures in
    let whole : length new ≡ 16 = ap length written ∙ (block_of-bytes (lane j c.args.x)).count in
    record {
      long = length-put_mid (16 * j) (16 * j + 16 - 16 * j) c.loop-j.group new (omega arith) (omega arith) ∙ long;
      filled = filled_more 16 j (16 * j) (16 * j + 16 - 16 * j) (λ i. block_of (lane i c.args.x)) c.loop-j.group
          new inv.filled refl (omega arith) (omega arith) written whole;
    }

pub returns : goal.returns
returns c =
    let inv = c.loop-j.invariant in
    filled_all 16 c.loop-j.j 8 (λ i. block_of (lane i c.args.x)) c.loop-j.group inv.filled (omega arith) inv.long
