use Rattle.std.proofs.Common.{ℕ, List, ◌≡◌, ◌+◌, ◌-◌, ◌*◌, length, refl, sym, ap, ◌∙◌, arith}
use Rattle.vc_base.specs.Bytes.{to_bytes, piece}
use Rattle.vc_base.proofs.Chunks.{piece-take}
use Rattle.vc_base.proofs.Pieces.{piece-joined}
use Rattle.vc_base.proofs.Bytes.{length-to_bytes}
use Rattle.cipher_base.proofs.Loops.{length-put_mid, filled_none, filled_more, filled_front}
use Rattle.cascade_set.proofs.layer.numbers.Goals as goal

pub loop-i-init : goal.loop-i-init
loop-i-init c = record { long = refl; filled = filled_none _ _ _ _ refl }

pub loop-i-preserved : goal.loop-i-preserved
loop-i-preserved c =
    let inv = c.loop-i.invariant in
    let long = inv.long in
    let i = c.loop-i.i in
    let number : ℕ → List ℕ = λ j. to_bytes 16 (c.args.unit + j) in
    let new = c.copy_from_slice.new.self in
    let written : new ≡ number i = c.copy_from_slice.ensures.after ∙ c.number.ensures in
    let whole : length new ≡ 16 = ap length written ∙ length-to_bytes 16 (c.args.unit + i) in
    record {
      long = length-put_mid (16 * i) (16 * i + 16 - 16 * i) c.loop-i.all new (omega arith) (omega arith) ∙ long;
      filled = filled_more 16 i (16 * i) (16 * i + 16 - 16 * i) number c.loop-i.all new
          inv.filled refl (omega arith) (omega arith) written whole;
    }

pub returns : goal.returns
returns c j below =
    let count = c.args.count in
    let number : ℕ → List ℕ = λ i. to_bytes 16 (c.args.unit + i) in
    sym (piece-take 16 j (16 * count) c.loop-i.all (omega arith))
    ∙ ap (piece 16 j)
    (filled_front 16 c.loop-i.i count number c.loop-i.all c.loop-i.invariant.filled (omega arith))
    ∙ piece-joined number 16 count j (λ i inside. length-to_bytes 16 (c.args.unit + i)) below
