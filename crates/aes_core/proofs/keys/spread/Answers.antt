use Rattle.std.proofs.Common.{◌≡◌, ◌+◌, ◌-◌, ◌*◌, ◌/◌, List, ℕ, [], length, get_or, refl, sym, ap, ◌∙◌, subst, arith}
use Rattle.std.proofs.lemmas.Simd.{length-replicate}
use Rattle.cipher_base.proofs.Loops.{length-put_mid}
use Rattle.vc_base.specs.Bytes.{IsBytes, piece}
use Rattle.aes_core.specs.Laws.Planes.{AreKeyPlanes}
use Rattle.aes_core.proofs.KeyPlanes.{AreCopies, key_row, key_row_bytes, copies_written, copies_planes, no_keys, one_key_more}
use Rattle.vc_base.proofs.Pieces.{length-piece}
use Rattle.aes_core.proofs.Moves.{turned_bytes}
use Rattle.aes_core.proofs.keys.spread.Goals as goal

pub loop-r-init : goal.loop-r-init
loop-r-init c = record { long = length-replicate {A = ℕ} 1920 0; spread = no_keys _ _ _ refl }

pub transposed-requires : goal.transposed-requires
transposed-requires c =
    let w = c.args.schedule.now in
    let bytes : IsBytes 240 w = record { count = c.told-schedule; each = c.fits-schedule } in
    copies_planes c.turn-key.result
    (subst (IsBytes 16) (sym c.turn-key.ensures) (turned_bytes (get_or c.as_chunks.result.0.now c.loop-r.r [])
    (key_row_bytes (length w / 16) w c.as_chunks.result.0.now c.loop-r.r c.as_chunks.ensures.front bytes (omega arith) c.loop-r-test.true)))

pub loop-r-preserved : goal.loop-r-preserved
loop-r-preserved c =
    let w = c.args.schedule.now in
    let r = c.loop-r.r in
    let new = c.scatter.new.group in
    let long = c.loop-r.invariant.long in
    let row : get_or c.as_chunks.result.0.now r [] ≡ piece 16 r w
    = key_row (length w / 16) w c.as_chunks.result.0.now r c.as_chunks.ensures.front (omega arith) in
    let copies : AreCopies (piece 16 r w) new
    = subst (λ (k : List ℕ). AreCopies k new) row (copies_written (get_or c.as_chunks.result.0.now r []) c.turn-key.result c.transposed.result new (ap length row ∙ length-piece 16 r w (omega arith))
    c.turn-key.ensures c.transposed.ensures c.scatter.ensures) in
    record {
      long = length-put_mid (128 * r) (128 * r + 128 - 128 * r) c.loop-r.planes new (omega arith) (omega arith) ∙ long;
      spread = one_key_more r (128 * r + 128 - 128 * r) w c.loop-r.planes new c.loop-r.invariant.spread (omega arith) (omega arith)
          (omega arith) copies;
    }

pub returns : goal.returns
returns c =
    let all : c.loop-r.r ≡ 15 = omega arith in
    subst (λ (n : ℕ). AreKeyPlanes n c.args.schedule.now c.loop-r.planes) all c.loop-r.invariant.spread
