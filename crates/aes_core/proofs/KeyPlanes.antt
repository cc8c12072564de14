-- The planes of the round keys.
--
-- Eight copies of a round key are transposed and written as eight rows. So each of the eight blocks of a group of
-- 128 bytes is that round key, and the groups before it stay.
use Rattle.std.proofs.Common.{◌≡◌, ◌<◌, ◌≤◌, ◌+◌, ◌-◌, ◌*◌, List, [], ◌∷◌, ℕ, length, get_or, take, drop, replicate, refl, sym, ap, ap₂, ◌∙◌, subst, arith, lit<, inl, inr}
use Rattle.std.proofs.lemmas.Bool.{cases_lt}
use Rattle.std.proofs.lemmas.Simd.{get_or-replicate}
use Rattle.std.proofs.lemmas.Slice.{take-put_mid_below, between-put_mid}
use borrow.Rule.Slice.PartMut.{put_mid}
use Rattle.vc_base.specs.Bits.{of_bits}
use Rattle.vc_base.specs.Bytes.{IsBytes, piece, joined}
use Rattle.std.specs.Simd.{first_chunks}
use Rattle.vc_base.proofs.Bytes.{IsBytes-piece}
use Rattle.vc_base.proofs.Chunks.{piece-take, chunk_is_piece}
use Rattle.vc_base.proofs.Pieces.{piece-joined}
use Rattle.aes_core.specs.Laws.Planes.{plane, block_of, rows, ArePlanes, by_rows, Transposed, AreKeyPlanes}
use Rattle.aes_core.proofs.Moves.{turned_twice}
use Rattle.aes_core.proofs.OnPlanes.{below_eight}

-- ---- one group

-- eight rows, one by one
abbrev listed : List (List ℕ) → List (List ℕ)
listed y = plane y 0 ∷ plane y 1 ∷ plane y 2 ∷ plane y 3 ∷ plane y 4 ∷ plane y 5 ∷ plane y 6 ∷ plane y 7 ∷ []

rows-joined : (y : List (List ℕ)) → ArePlanes y → rows (joined (plane y) 8) ≡ listed y
rows-joined y planes =
    let one : (i : ℕ) → i < 8 → (xs ys : List (List ℕ)) → xs ≡ ys → piece 16 i (joined (plane y) 8) ∷ xs ≡ plane y i ∷ ys
    = λ i below xs ys rest. ap₂ ◌∷◌ (piece-joined (plane y) 16 8 i (λ j inside. (planes.each j inside).count) below) rest in
    one 0 (lit< tt) _ _ (one 1 (lit< tt) _ _ (one 2 (lit< tt) _ _ (one 3 (lit< tt) _ _
    (one 4 (lit< tt) _ _ (one 5 (lit< tt) _ _ (one 6 (lit< tt) _ _ (one 7 (lit< tt) _ _ refl)))))))

listed_planes : (y : List (List ℕ)) → ArePlanes y → ArePlanes (listed y)
listed_planes y planes =
    let one : (i : ℕ) → i < 8 → IsBytes 16 (plane y i) = λ i below. planes.each i below in
    record {
      each = below_eight (λ i. IsBytes 16 (plane (listed y) i)) (one 0 (lit< tt)) (one 1 (lit< tt)) (one 2 (lit< tt)) (one 3 (lit< tt))
          (one 4 (lit< tt)) (one 5 (lit< tt)) (one 6 (lit< tt)) (one 7 (lit< tt));
    }

block_of-listed : (y : List (List ℕ)) (k : ℕ) → block_of (listed y) k ≡ block_of y k
unfolding of_bits
block_of-listed y k = refl

pub record AreCopies (key g : List ℕ) : Type 0 where
  pub planes : ArePlanes (rows g)
  pub each : (k : ℕ) → k < 8 → block_of (rows g) k ≡ key

pub copies_written : (key row : List ℕ) (y : List (List ℕ)) (g : List ℕ) → length key ≡ 16 → row ≡ by_rows key → Transposed (replicate 8 row) y
    → g ≡ joined (plane y) 8 → AreCopies key g
copies_written key row y g long is transposed written =
    let as_rows : rows g ≡ listed y = ap rows written ∙ rows-joined y transposed.planes in
    record {
      planes = subst ArePlanes (sym as_rows) (listed_planes y transposed.planes);
      each = λ k below.
          ap (λ (p : List (List ℕ)). block_of p k) as_rows ∙ block_of-listed y k ∙ transposed.blocks k below
          ∙ ap by_rows (get_or-replicate 8 k row [] below ∙ is) ∙ turned_twice key long;
    }

pub copies_planes : (key : List ℕ) → IsBytes 16 key → ArePlanes (replicate 8 key)
copies_planes key bytes = record {
  each = λ i below. subst (IsBytes 16) (sym (get_or-replicate 8 i key [] below)) bytes;
}

-- ---- the groups, one after the other

pub no_keys : (n : ℕ) (w ps : List ℕ) → n ≡ 0 → AreKeyPlanes n w ps
no_keys n w ps none = record {
  planes = λ r below. absurd (omega arith);
  each = λ r k below _. absurd (omega arith);
}

group_of : List ℕ → List ℕ → ℕ → Type 0
group_of w ps r = AreCopies (piece 16 r w) (piece 128 r ps)

pub one_key_more : (n k : ℕ) (w ps new : List ℕ) → AreKeyPlanes n w ps → k ≡ 128 → 128 * (n + 1) ≤ length ps → length new ≡ k
    → AreCopies (piece 16 n w) new → AreKeyPlanes (n + 1) w (put_mid (128 * n) k ps new)
unfolding group_of
one_key_more n k w ps new so_far whole inside long copies =
    let now : List ℕ = put_mid (128 * n) k ps new in
    let before : (r : ℕ) → r < n → piece 128 r ps ≡ piece 128 r now
    = λ r below. sym (piece-take 128 r (128 * n) ps (omega arith))
    ∙ ap (piece 128 r) (sym (take-put_mid_below (128 * n) k ps new (128 * n) (omega arith) (omega arith)))
    ∙ piece-take 128 r (128 * n) now (omega arith) in
    let count : 128 ≡ 128 * n + 128 - 128 * n = omega arith in
    let here : piece 128 n now ≡ new
    = ap (λ (m : ℕ). take m (drop (128 * n) now)) count
    ∙ between-put_mid (128 * n) k ps new (128 * n + 128) (omega arith) (omega arith) in
    let all : (r : ℕ) → r < n + 1 → group_of w now r
    = λ r below. elim (cases_lt r n) [
      | inl earlier ↦ subst (AreCopies (piece 16 r w)) (before r earlier)
          (record { planes = so_far.planes r earlier; each = λ k small. so_far.each r k earlier small })
      | inr last ↦
          let same : n ≡ r = omega arith in
          subst (group_of w now) same (subst (AreCopies (piece 16 n w)) (sym here) copies)
    ] in
    record { planes = λ r below. (all r below).planes; each = λ r k below small. (all r below).each k small }

-- ---- the rows of the schedule

pub key_row : (n : ℕ) (w : List ℕ) (cs : List (List ℕ)) (r : ℕ) → cs ≡ first_chunks 16 n w → r < n → get_or cs r [] ≡ piece 16 r w
key_row n w cs r are below = ap (λ (c : List (List ℕ)). get_or c r []) are ∙ chunk_is_piece 16 n w r below

pub key_row_bytes : (n : ℕ) (w : List ℕ) (cs : List (List ℕ)) (r : ℕ) → cs ≡ first_chunks 16 n w → IsBytes 240 w → r < n → r < 15
    → IsBytes 16 (get_or cs r [])
key_row_bytes n w cs r are bytes below inside =
    subst (IsBytes 16) (sym (key_row n w cs r are below)) (IsBytes-piece 240 16 r w bytes (omega arith))
