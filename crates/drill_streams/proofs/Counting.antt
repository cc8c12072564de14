-- The data of a write, sector by sector: as 512 is twice 256, each sector has the same bytes.
use Rattle.std.proofs.Common.{◌≡◌, ◌<◌, ℕ, zero, suc, ◌+◌, ◌*◌, ◌/◌, ◌%◌, List, [], ◌∷◌, ◌++◌, length, get_or, set, append_assoc, get_or-set_other, get_or-set_same, refl, sym, ap, ap₂, ◌∙◌, arith, inl, inr}
use Rattle.vc_base.specs.Bytes.{joined}
use Rattle.std.proofs.Math.ListN.{get_or-append}
use Rattle.std.proofs.Math.Seq.{get_or-append_seam}
use Rattle.std.proofs.lemmas.Bool.{cases_eq}
use Rattle.std.proofs.lemmas.List.{append-nil, ext_get_or, length-set}
use Rattle.vc_base.proofs.Pieces.{length-joined, joined-add, joined_more, joined_none, joined_same, joined_suc}
use Rattle.drill_streams.specs.Drill.{count_of, data_of}

-- a sector that counts up from a byte
abbrev pub sector_from : ℕ → List ℕ
sector_from s = joined (λ i. (s + i) % 256 ∷ []) 512

pub by_sectors : (s k : ℕ) → joined (λ i. (s + i) % 256 ∷ []) (512 * k) ≡ joined (λ _. sector_from s) k
by_sectors s zero = joined_none (λ i. (s + i) % 256 ∷ []) ∙ sym (joined_none (λ _. sector_from s))
by_sectors s (suc k) =
    let count : 512 * suc k ≡ 512 * k + 512 = omega arith in
    ap (joined (λ i. (s + i) % 256 ∷ [])) count
    ∙ joined-add (λ i. (s + i) % 256 ∷ []) (512 * k) 512
    ∙ ap₂ ◌++◌ (by_sectors s k)
    (joined_same (λ j. (s + (512 * k + j)) % 256 ∷ []) (λ i. (s + i) % 256 ∷ []) 512
    (λ j below. let same : (s + (512 * k + j)) % 256 ≡ (s + j) % 256 = omega arith in ap (λ (x : ℕ). x ∷ []) same))
    ∙ sym (joined_suc (λ _. sector_from s) k)

pub data_by_sectors : (w : ℕ) → data_of w ≡ joined (λ _. sector_from (w / 16777216)) (count_of w)
unfolding data_of
data_by_sectors w = by_sectors (w / 16777216) (count_of w)

-- ---- a sector by its bytes

one_by_one : (f : ℕ → ℕ) (n : ℕ) → length (joined (λ i. f i ∷ []) n) ≡ n
one_by_one f n = length-joined (λ i. f i ∷ []) 1 n (λ j below. refl) ∙ omega arith

byte_of : (f : ℕ → ℕ) (n k : ℕ) → k < n → get_or (joined (λ i. f i ∷ []) n) k 0 ≡ f k
byte_of f zero k below = absurd (omega (arith, below))
byte_of f (suc n) k below =
    elim (cases_eq k n) [
      | inl same ↦
          let last : get_or (joined (λ i. f i ∷ []) n ++ f n ∷ []) (length (joined (λ i. f i ∷ []) n)) 0 ≡ f n
          = get_or-append_seam (joined (λ i. f i ∷ []) n) (f n) [] 0 in
          let place : k ≡ length (joined (λ i. f i ∷ []) n) = same ∙ sym (one_by_one f n) in
          ap (λ (xs : List ℕ). get_or xs k 0) (joined_suc (λ i. f i ∷ []) n)
          ∙ ap (λ (i : ℕ). get_or (joined (λ i. f i ∷ []) n ++ f n ∷ []) i 0) place
          ∙ last ∙ ap f (sym same)
      | inr other ↦
          ap (λ (xs : List ℕ). get_or xs k 0) (joined_suc (λ i. f i ∷ []) n)
          ∙ get_or-append (joined (λ i. f i ∷ []) n) (f n ∷ []) 0 k (omega (arith, one_by_one f n, below, other))
          ∙ byte_of f n k (omega (arith, below, other))
    ]

pub counts_up : (s : ℕ) (xs : List ℕ) → length xs ≡ 512 → ((k : ℕ) → k < 512 → get_or xs k 0 ≡ (s + k) % 256) → xs ≡ sector_from s
counts_up s xs size each =
    ext_get_or 0 xs (sector_from s) (size ∙ sym (one_by_one (λ i. (s + i) % 256) 512))
    (λ k inside. each k (omega (arith, inside, size)) ∙ sym (byte_of (λ i. (s + i) % 256) 512 k (omega (arith, inside, size))))

-- the first i bytes of a sector count up
pub record CountsUp (s i : ℕ) (xs : List ℕ) : Type 0 where
  pub size : length xs ≡ 512
  pub each : (k : ℕ) → k < i → get_or xs k 0 ≡ (s + k) % 256

module _ (s i b : ℕ) (xs : List ℕ) (up : CountsUp s i xs) (inside : i < 512) (is : b ≡ (s + i) % 256) where
  byte_next : (k : ℕ) → k < i + 1 → get_or (set xs i b) k 0 ≡ (s + k) % 256
  byte_next k below =
      elim (cases_eq k i) [
        | inl same ↦
            ap (λ (j : ℕ). get_or (set xs i b) j 0) same ∙ get_or-set_same xs i b 0 (omega (arith, inside, up.size)) ∙ is
            ∙ ap (λ (j : ℕ). (s + j) % 256) (sym same)
        | inr other ↦ get_or-set_other xs i k b 0 other ∙ up.each k (omega (arith, below, other))
      ]

  -- and so does the next one, once it is written
  pub next_counts : CountsUp s (i + 1) (set xs i b)
  next_counts = record { size = length-set xs i b ∙ up.size; each = byte_next }

-- ---- sectors, one after the other

pub none_added : (s : ℕ) (old : List ℕ) → old ≡ old ++ joined (λ _. sector_from s) 0
none_added s old = sym (ap (λ (xs : List ℕ). old ++ xs) (joined_none (λ _. sector_from s)) ∙ append-nil old)

pub one_added : (s k : ℕ) (old now next sector : List ℕ) → now ≡ old ++ joined (λ _. sector_from s) k → sector ≡ sector_from s → next ≡ now ++ sector
    → next ≡ old ++ joined (λ _. sector_from s) (k + 1)
one_added s k old now next sector known is more =
    more ∙ ap₂ ◌++◌ known is
    ∙ append_assoc old (joined (λ _. sector_from s) k) (sector_from s)
    ∙ ap (λ (xs : List ℕ). old ++ xs) (sym (joined_more (λ _. sector_from s) k))

pub all_added : (w k : ℕ) (old now : List ℕ) → now ≡ old ++ joined (λ _. sector_from (w / 16777216)) k → k ≡ count_of w → now ≡ old ++ data_of w
all_added w k old now known is =
    known ∙ ap (λ (xs : List ℕ). old ++ xs) (ap (joined (λ _. sector_from (w / 16777216))) is ∙ sym (data_by_sectors w))
