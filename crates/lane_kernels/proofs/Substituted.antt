-- Boxes on states.
--
-- The nibbles of `substituted f x` are what f makes of those of x, and a state is known by the bits
-- of its words. So a box and its inverse undo each other on states, since they do on 16 nibbles.
use Rattle.std.proofs.Common.{◌≡◌, ◌<◌, ◌+◌, ◌*◌, ◌/◌, ◌%◌, ◌^◌, eqb, List, [], ◌∷◌, ℕ, true, slice_index, refl, sym, ap, ap₂, ◌∙◌, subst, arith}
use Rattle.std.specs.Int.{bit_at}
use Rattle.std.proofs.lemmas.Nat.Bits.{bit_at-lt}
use Rattle.vc_base.specs.Words.{AreWords}
use Rattle.lane_kernels.specs.SerpentRounds.{entries, entry, inverse_entry, nibble, substituted}
use Rattle.vc_base.specs.Bits.{of_bits, number_below}
use Rattle.vc_base.proofs.EachNumber.{agree_below, agree_at}
use Rattle.vc_base.proofs.Bits.{AreBits, of_bits-below, bit_at-of_bits, of_bits-ext, own_bits}
use Rattle.lane_kernels.proofs.Nibbles.{nibble_of_bits, HasBits, bits_of_nibble, of_four-below}
use Rattle.vc_base.proofs.FourWords.{four_of, four, are_four}

-- bit i of word j of the result
abbrev placed : (ℕ → ℕ) → List ℕ → ℕ → ℕ → ℕ
placed f x j i = bit_at (f (nibble x i)) j

placed-bits : (f : ℕ → ℕ) (x : List ℕ) (j : ℕ) → AreBits (placed f x j)
placed-bits f x j = record { each = λ i. bit_at-lt (f (nibble x i)) j }

pub substituted-words : (f : ℕ → ℕ) (x : List ℕ) → AreWords 4 (substituted f x)
unfolding substituted
substituted-words f x =
    let below : (j : ℕ) → of_bits (placed f x j) 32 < 2 ^ 32
    = λ j. of_bits-below (placed f x j) 32 (placed-bits f x j) in
    are_four _ _ _ _ (below 0) (below 1) (below 2) (below 3)

-- ---- the nibbles of a state

-- bit i of word j of a state
abbrev pub bit_of : List ℕ → ℕ → ℕ → ℕ
bit_of x i j = bit_at (slice_index x j) i

bit_of-lt : (x : List ℕ) (i j : ℕ) → bit_of x i j < 2
bit_of-lt x i j = bit_at-lt (slice_index x j) i

pub nibble-below : (x : List ℕ) (i : ℕ) → nibble x i < 16
nibble-below x i =
    let bit : (j : ℕ) → bit_of x i j < 2 = bit_of-lt x i in
    of_four-below (bit_of x i 0) (bit_of x i 1) (bit_of x i 2) (bit_of x i 3)
    (bit 0) (bit 1) (bit 2) (bit 3)

pub nibble-bits : (x : List ℕ) (i : ℕ)
    → HasBits (nibble x i) (bit_of x i 0) (bit_of x i 1) (bit_of x i 2) (bit_of x i 3)
nibble-bits x i =
    let bit : (j : ℕ) → bit_of x i j < 2 = bit_of-lt x i in
    bits_of_nibble (bit_of x i 0) (bit_of x i 1) (bit_of x i 2) (bit_of x i 3)
    (bit 0) (bit 1) (bit 2) (bit 3)

pub nibble-substituted : (f : ℕ → ℕ) (x : List ℕ) (i : ℕ) → i < 32 → f (nibble x i) < 16
    → nibble (substituted f x) i ≡ f (nibble x i)
unfolding substituted
nibble-substituted f x i below small =
    let bit : (j : ℕ) → bit_at (of_bits (placed f x j) 32) i ≡ placed f x j i
    = λ j. bit_at-of_bits (placed f x j) 32 i (placed-bits f x j) below in
    let four_bits : ◌≡◌ {A = ℕ} (nibble (substituted f x) i)
    (placed f x 0 i + 2 * placed f x 1 i + 4 * placed f x 2 i + 8 * placed f x 3 i)
    = omega (arith, bit 0, bit 1, bit 2, bit 3) in
    four_bits ∙ nibble_of_bits (f (nibble x i)) small

-- ---- a state is known by its nibbles

-- the word is the one that a box makes
pub same_word : (f : ℕ → ℕ) (x : List ℕ) (j y : ℕ) → y < 2 ^ 32
    → ((i : ℕ) → i < 32 → bit_at y i ≡ bit_at (f (nibble x i)) j) → y ≡ of_bits (placed f x j) 32
same_word f x j y word same = own_bits y 32 word ∙ of_bits-ext (bit_at y) (placed f x j) 32 same

pub same_state : (f : ℕ → ℕ) (x : List ℕ) (a b c d : ℕ) → AreWords 4 (a ∷ b ∷ c ∷ d ∷ [])
    → ((i : ℕ) → i < 32
    → HasBits (f (nibble x i)) (bit_at a i) (bit_at b i) (bit_at c i) (bit_at d i))
    → a ∷ b ∷ c ∷ d ∷ [] ≡ substituted f x
unfolding substituted
same_state f x a b c d words same =
    ap₂ ◌∷◌ (same_word f x 0 a (words.each 0) (λ i below. sym (same i below).place_0))
    (ap₂ ◌∷◌ (same_word f x 1 b (words.each 1) (λ i below. sym (same i below).place_1))
    (ap₂ ◌∷◌ (same_word f x 2 c (words.each 2) (λ i below. sym (same i below).place_2))
    (ap₂ ◌∷◌ (same_word f x 3 d (words.each 3) (λ i below. sym (same i below).place_3)) refl)))

-- ---- two boxes, one after the other

-- nibble i comes back
nibble-undone : (f g : ℕ → ℕ) (x : List ℕ) (i : ℕ) → i < 32 → ((n : ℕ) → n < 16 → f n < 16)
    → ((n : ℕ) → n < 16 → g (f n) ≡ n) → g (nibble (substituted f x) i) ≡ nibble x i
nibble-undone f g x i below small undo =
    let n : ℕ = nibble x i in
    let n_below : n < 16 = nibble-below x i in
    ap g (nibble-substituted f x i below (small n n_below)) ∙ undo n n_below

undone_by : (f g : ℕ → ℕ) (x : List ℕ) → AreWords 4 x → ((n : ℕ) → n < 16 → f n < 16)
    → ((n : ℕ) → n < 16 → g (f n) ≡ n) → substituted g (substituted f x) ≡ x
undone_by f g x words small undo =
    let listed : x ≡ four_of (slice_index x) = four x words.count in
    let bits : (i : ℕ) (n : ℕ) → Type 0
    = λ i n. HasBits n (bit_of x i 0) (bit_of x i 1) (bit_of x i 2) (bit_of x i 3) in
    sym (listed
    ∙ same_state g (substituted f x) _ _ _ _ (subst (λ (y : List ℕ). AreWords 4 y) listed words)
    (λ i below. subst (bits i) (sym (nibble-undone f g x i below small undo)) (nibble-bits x i)))

-- ---- the eight boxes and their inverses

-- at 16k + n: what box k and its inverse make of the nibble n
abbrev forth : ℕ → ℕ
forth m = entry (m / 16) (m % 16)

abbrev back : ℕ → ℕ
back m = inverse_entry (m / 16) (m % 16)

computed_below : agree_below (λ m. forth m % 16) forth 128 ≡ true
unfolding agree_below entry
computed_below = refl

computed_back_below : agree_below (λ m. back m % 16) back 128 ≡ true
unfolding agree_below entry inverse_entry number_below
computed_back_below = refl

computed_undone : agree_below (λ m. inverse_entry (m / 16) (forth m)) (λ m. m % 16) 128 ≡ true
unfolding agree_below entry inverse_entry number_below
computed_undone = refl

computed_done : agree_below (λ m. entry (m / 16) (back m)) (λ m. m % 16) 128 ≡ true
unfolding agree_below entry inverse_entry number_below
computed_done = refl

-- the boxes are counted modulo 8
pub entry_modulo : (k r : ℕ) → k % 8 ≡ r % 8 → entry k ≡ entry r
unfolding entry
entry_modulo k r same = ap (λ (m : ℕ). λ (n : ℕ). slice_index entries (16 * m + n)) same

pub inverse_entry_modulo : (k r : ℕ) → k % 8 ≡ r % 8 → inverse_entry k ≡ inverse_entry r
unfolding inverse_entry
inverse_entry_modulo k r same =
    ap (λ (f : ℕ → ℕ). λ (n : ℕ). number_below 16 (λ m. eqb (f m) n)) (entry_modulo k r same)

-- where nibble n of box k is computed
record IsPlace (k n m : ℕ) : Type 0 where
  box : m / 16 ≡ k % 8
  nibble_of : m % 16 ≡ n
  below : m < 128

abbrev place : ℕ → ℕ → ℕ
place k n = 16 * (k % 8) + n

is_place : (k n : ℕ) → n < 16 → IsPlace k n (place k n)
is_place k n small = record { box = omega arith; nibble_of = omega arith; below = omega arith }

twice : (k : ℕ) → k % 8 % 8 ≡ k % 8
twice k = omega arith

forth_at : (k n : ℕ) → n < 16 → forth (place k n) ≡ entry k n
forth_at k n small =
    let at = is_place k n small in
    ap₂ entry at.box at.nibble_of ∙ ap (λ (f : ℕ → ℕ). f n) (entry_modulo (k % 8) k (twice k))

back_at : (k n : ℕ) → n < 16 → back (place k n) ≡ inverse_entry k n
back_at k n small =
    let at = is_place k n small in
    ap₂ inverse_entry at.box at.nibble_of
    ∙ ap (λ (f : ℕ → ℕ). f n) (inverse_entry_modulo (k % 8) k (twice k))

pub entry-below : (k n : ℕ) → n < 16 → entry k n < 16
entry-below k n small =
    let m = place k n in
    let e = agree_at (λ m. forth m % 16) forth 128 computed_below m (is_place k n small).below in
    omega (arith, e, forth_at k n small)

pub inverse_entry-below : (k n : ℕ) → n < 16 → inverse_entry k n < 16
inverse_entry-below k n small =
    let m = place k n in
    let e = agree_at (λ m. back m % 16) back 128 computed_back_below m (is_place k n small).below in
    omega (arith, e, back_at k n small)

pub entry_undone : (k n : ℕ) → n < 16 → inverse_entry k (entry k n) ≡ n
entry_undone k n small =
    let at = is_place k n small in
    sym (ap₂ inverse_entry at.box (forth_at k n small)
    ∙ ap (λ (f : ℕ → ℕ). f (entry k n)) (inverse_entry_modulo (k % 8) k (twice k)))
    ∙ agree_at (λ m. inverse_entry (m / 16) (forth m)) (λ m. m % 16) 128 computed_undone (place k n)
    at.below
    ∙ at.nibble_of

pub entry_done : (k n : ℕ) → n < 16 → entry k (inverse_entry k n) ≡ n
entry_done k n small =
    let at = is_place k n small in
    sym (ap₂ entry at.box (back_at k n small)
    ∙ ap (λ (f : ℕ → ℕ). f (inverse_entry k n)) (entry_modulo (k % 8) k (twice k)))
    ∙ agree_at (λ m. entry (m / 16) (back m)) (λ m. m % 16) 128 computed_done (place k n) at.below
    ∙ at.nibble_of

-- ---- a box and its inverse on states

pub box_undone : (k : ℕ) (x : List ℕ) → AreWords 4 x
    → substituted (inverse_entry k) (substituted (entry k) x) ≡ x
box_undone k x words = undone_by (entry k) (inverse_entry k) x words (entry-below k)
    (entry_undone k)

pub box_done : (k : ℕ) (x : List ℕ) → AreWords 4 x
    → substituted (entry k) (substituted (inverse_entry k) x) ≡ x
box_done k x words = undone_by (inverse_entry k) (entry k) x words (inverse_entry-below k)
    (entry_done k)
