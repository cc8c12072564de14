-- Bytes written over others, as an array.
--
-- ys are written over xs from piece i on. A piece before that is as it was, those of ys are theirs, and a piece
-- after them is as it was: a write of whole units to a list of bytes is data laid over an array.
use Rattle.std.proofs.Common.{◌≡◌, ◌<◌, ◌≤◌, ℕ, suc, ◌+◌, ◌-◌, ◌*◌, ◌/◌, true, false, ◌&&◌, ltb, cond, List, ◌++◌, length, take, drop, sym, ap, ◌∙◌, arith, inl, inr, take_at, length-append, length-take-le, length-drop, mul-le-mul_left}
use Rattle.std.proofs.lemmas.List.{drop-drop}
use Rattle.std.proofs.lemmas.Bool.Decides.{leb_tells}
use borrow.Rule.Slice.PartMut.{put_mid}
use Rattle.vc_base.specs.Bytes.{piece}
use Rattle.vc_base.proofs.Pieces.{piece_inside, piece-append_left, piece-append_right}
use Rattle.vc_base.proofs.Chunks.{piece-take}
use Rattle.sector_model.specs.Array.{array_of, Holds, is_in, laid, unit, units_of, Volume}
use Rattle.vc_layout.specs.Layout.{IsSectorSize}

abbrev pub over : ℕ → List ℕ → List ℕ → List ℕ
over at ys xs = take at xs ++ (ys ++ drop (at + length ys) xs)

pub length-over : (at : ℕ) (ys xs : List ℕ) → at + length ys ≤ length xs → length (over at ys xs) ≡ length xs
length-over at ys xs inside =
    length-append (take at xs) (ys ++ drop (at + length ys) xs)
    ∙ omega (arith, length-take-le at xs (omega arith), length-append ys (drop (at + length ys) xs), length-drop (at + length ys) xs)

module _ (n i j : ℕ) (ys xs : List ℕ) (inside : n * i + n * j ≤ length xs) (long : length ys ≡ n * j) where
  long_take : length (take (n * i) xs) ≡ n * i
  long_take = length-take-le (n * i) xs (omega arith)

  pub piece_before : (u : ℕ) → u < i → piece n u (over (n * i) ys xs) ≡ piece n u xs
  piece_before u below =
      let row : n * u + n ≤ n * i = omega (arith, mul-le-mul_left n below) in
      piece-append_left n u (take (n * i) xs) (ys ++ drop (n * i + length ys) xs) (omega (arith, long_take))
      ∙ piece-take n u (n * i) xs row

  pub piece_within : (k : ℕ) → k < j → piece n (i + k) (over (n * i) ys xs) ≡ piece n k ys
  piece_within k below =
      let row : n * k + n ≤ n * j = omega (arith, mul-le-mul_left n below) in
      piece-append_right n i k (take (n * i) xs) (ys ++ drop (n * i + length ys) xs) long_take
      ∙ piece-append_left n k ys (drop (n * i + length ys) xs) (omega arith)

  pub piece_after : (k : ℕ) → piece n (i + (j + k)) (over (n * i) ys xs) ≡ piece n (i + (j + k)) xs
  piece_after k =
      let place : n * i + length ys + n * k ≡ n * (i + (j + k)) = omega arith in
      piece-append_right n i (j + k) (take (n * i) xs) (ys ++ drop (n * i + length ys) xs) long_take
      ∙ piece-append_right n j k ys (drop (n * i + length ys) xs) long
      ∙ ap (take n) (drop-drop (n * k) (n * i + length ys) xs ∙ ap (λ (m : ℕ). drop m xs) place)

pub over_is_laid : (v : Volume) (first : ℕ) (ys xs : List ℕ) → length ys ≡ 512 * units_of ys
    → 512 * (v.per_sector * first) + length ys ≤ length xs
    → (u : ℕ) → array_of (over (512 * (v.per_sector * first)) ys xs) u ≡ laid v first ys (array_of xs) u
over_is_laid v first ys xs whole inside u =
    let i : ℕ = v.per_sector * first in
    let j : ℕ = units_of ys in
    elim (leb_tells i u) [
      | inr (above, before) ↦
          let out : is_in v first ys u ≡ false = ap (λ b. b && ltb u (i + j)) above in
          piece_before 512 i j ys xs (omega arith) whole u before
          ∙ sym (ap (λ b. cond b (unit (u - i) ys) (array_of xs u)) out)
      | inl (under, from) ↦ elim (leb_tells (suc u) (i + j)) [
        | inl (below, less) ↦
            let held : is_in v first ys u ≡ true = ap (λ b. b && ltb u (i + j)) under ∙ below in
            let place : i + (u - i) ≡ u = omega arith in
            sym (ap (λ (k : ℕ). array_of (over (512 * i) ys xs) k) place)
            ∙ piece_within 512 i j ys xs (omega arith) whole (u - i) (omega arith)
            ∙ sym (ap (λ b. cond b (unit (u - i) ys) (array_of xs u)) held)
        | inr (not_below, more) ↦
            let out : is_in v first ys u ≡ false = ap (λ b. b && ltb u (i + j)) under ∙ not_below in
            let place : i + (j + (u - (i + j))) ≡ u = omega arith in
            sym (ap (λ (k : ℕ). array_of (over (512 * i) ys xs) k) place)
            ∙ piece_after 512 i j ys xs (omega arith) whole (u - (i + j))
            ∙ ap (array_of xs) place
            ∙ sym (ap (λ b. cond b (unit (u - i) ys) (array_of xs u)) out)
      ]
    ]

-- a sector size is a whole number of units
pub whole_units : (s : ℕ) → IsSectorSize s → s ≡ 512 * (s / 512)
whole_units s size = elim size [
  | inl one ↦ omega arith
  | inr (inl two) ↦ omega arith
  | inr (inr (inl four)) ↦ omega arith
  | inr (inr (inr eight)) ↦ omega arith
]

-- a volume's place in bytes
pub place_in_bytes : (v : Volume) (first s at : ℕ) → IsSectorSize s → s / 512 ≡ v.per_sector → at ≡ first * s
    → at ≡ 512 * (v.per_sector * first)
place_in_bytes v first s at size per place =
    place ∙ ap (λ (x : ℕ). first * x) (whole_units s size ∙ ap (λ (x : ℕ). 512 * x) per) ∙ omega arith

-- what is read from there is what the array holds
pub read_holds : (v : Volume) (first at m : ℕ) (xs out : List ℕ) → at ≡ 512 * (v.per_sector * first)
    → out ≡ take m (drop at xs) → length out ≤ m → Holds v first out (array_of xs)
read_holds v first at m xs out place is enough k inside =
    let i : ℕ = v.per_sector * first in
    let row : 512 * k + 512 ≤ length out = piece_inside 512 k (length out) inside in
    let there : at + 512 * k ≡ 512 * (i + k) = omega arith in
    sym (ap (unit k) is ∙ piece-take 512 k m (drop at xs) (omega arith)
    ∙ ap (take 512) (drop-drop (512 * k) at xs ∙ ap (λ (n : ℕ). drop n xs) there))

-- What a Vec holds after a part of it was overwritten, as the check writes it: xs are its items as a slice, and ys
-- is what was copied into the part.
pub written_back : (len at m : ℕ) (xs items old ys bytes : List ℕ) → xs ≡ items → items ≡ old → ys ≡ bytes
    → length xs ≡ len → m ≡ length bytes → at + length bytes ≤ length old
    → take len (put_mid at m xs ys ++ drop (length (put_mid at m xs ys)) items) ≡ over at bytes old
written_back len at m xs items old ys bytes is_items is_old is_bytes long all inside =
    let parts : put_mid at m xs ys ≡ over at bytes old
    = ap (λ (l : List ℕ). take at l ++ (ys ++ drop m (drop at l))) (is_items ∙ is_old)
    ∙ ap (λ (l : List ℕ). take at old ++ (l ++ drop m (drop at old))) is_bytes
    ∙ ap (λ (l : List ℕ). take at old ++ (bytes ++ l)) (drop-drop m at old)
    ∙ ap (λ (n : ℕ). take at old ++ (bytes ++ drop (at + n) old)) all in
    let whole : length (over at bytes old) ≡ len
    = length-over at bytes old inside ∙ sym (ap length (is_items ∙ is_old)) ∙ long in
    ap (λ (l : List ℕ). take len (l ++ drop (length l) items)) parts
    ∙ take_at (over at bytes old) (drop (length (over at bytes old)) items) len whole
