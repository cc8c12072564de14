-- Formulas over the four words of a state, on one state and on eight side by side.
--
-- A formula is an expression of bitwise operations and shifts. On vectors it gives in each lane what
-- it gives on the state of that lane. Without shifts, bit i of its value is a Boolean function of
-- nibble i, so it is enough to compute it at the 16 nibbles. `Boxes` and `Mixing` have the formulas
-- of the code, step by step.
use Rattle.std.proofs.Common.{◌≡◌, ◌<◌, ◌+◌, ◌-◌, ◌*◌, ◌/◌, ◌%◌, ◌^◌, min, max, Bool, true, false, ◌&&◌, List, [], ◌∷◌, ℕ, map, slice_index, slice_index_or, replicate, refl, sym, ap, ap₂, ◌∙◌, arith, bit_xor, bit_and, bit_or, w32}
use Rattle.std.specs.Int.{bit_at, bit_not}
use Rattle.std.specs.Int.Bits.{and_lt}
use Rattle.std.specs.Simd.Lanes.{zip2}
use Rattle.std.proofs.lemmas.Nat.{or_lt, xor_lt}
use Rattle.std.proofs.lemmas.Nat.Bits.{bit_at-lt, bit_at_and, bit_at_or, bit_at_xor, bit_at_not}
use Rattle.std.proofs.Math.Nat.{div-le_self}
use Rattle.vc_base.specs.Words.{AreWords}
use Rattle.lane_kernels.specs.SerpentRounds.{nibble, substituted}
use Rattle.lane_kernels.specs.Laws.Lanes.{lane, AreLanes, InEachLane}
use Rattle.vc_base.proofs.EachNumber.{agree_below, agree_at, both_of}
use Rattle.lane_kernels.proofs.Nibbles.{of_four, HasBits, bits_of_nibble}
use Rattle.vc_base.proofs.FourWords.{are_four}
use Rattle.lane_kernels.proofs.Substituted.{nibble-below, nibble-bits, same_state}
use Rattle.lane_kernels.proofs.LaneByLane.{Mapped, mapped, zipped, zipped_splat, lane-words, words_from_lanes}

pub data Formula : Type 0 where
  word_0 : Formula
  word_1 : Formula
  word_2 : Formula
  word_3 : Formula
  odd : Formula → Formula → Formula
  both : Formula → Formula → Formula
  either : Formula → Formula → Formula
  neither : Formula → Formula
  left : ℕ → Formula → Formula
  right : ℕ → Formula → Formula

-- its value on the words of a state
abbrev pub on_words : Formula → List ℕ → ℕ
on_words word_0 x = slice_index x 0
on_words word_1 x = slice_index x 1
on_words word_2 x = slice_index x 2
on_words word_3 x = slice_index x 3
on_words (odd f g) x = bit_xor (on_words f x) (on_words g x)
on_words (both f g) x = bit_and (on_words f x) (on_words g x)
on_words (either f g) x = bit_or (on_words f x) (on_words g x)
on_words (neither f) x = bit_not w32 (on_words f x)
on_words (left k f) x = on_words f x * 2 ^ k % 2 ^ 32
on_words (right k f) x = on_words f x / 2 ^ k

-- on the vectors of eight states
abbrev pub on_lanes : Formula → List (List ℕ) → List ℕ
on_lanes word_0 x = slice_index_or x 0 []
on_lanes word_1 x = slice_index_or x 1 []
on_lanes word_2 x = slice_index_or x 2 []
on_lanes word_3 x = slice_index_or x 3 []
on_lanes (odd f g) x = zip2 bit_xor (on_lanes f x) (on_lanes g x)
on_lanes (both f g) x = zip2 bit_and (on_lanes f x) (on_lanes g x)
on_lanes (either f g) x = zip2 bit_or (on_lanes f x) (on_lanes g x)
on_lanes (neither f) x = map (bit_not w32) (on_lanes f x)
on_lanes (left k f) x = zip2 (λ a b. a * 2 ^ b % 2 ^ 32) (on_lanes f x) (replicate 8 k)
on_lanes (right k f) x = zip2 (λ a b. a / 2 ^ b) (on_lanes f x) (replicate 8 k)

-- it has no shift
abbrev pub is_bitwise : Formula → Bool
is_bitwise word_0 = true
is_bitwise word_1 = true
is_bitwise word_2 = true
is_bitwise word_3 = true
is_bitwise (odd f g) = is_bitwise f && is_bitwise g
is_bitwise (both f g) = is_bitwise f && is_bitwise g
is_bitwise (either f g) = is_bitwise f && is_bitwise g
is_bitwise (neither f) = is_bitwise f
is_bitwise (left k f) = false
is_bitwise (right k f) = false

-- and, without shifts, on the bits of a nibble
abbrev pub on_nibble : Formula → ℕ → ℕ
on_nibble word_0 n = bit_at n 0
on_nibble word_1 n = bit_at n 1
on_nibble word_2 n = bit_at n 2
on_nibble word_3 n = bit_at n 3
on_nibble (odd f g) n = (on_nibble f n + on_nibble g n) % 2
on_nibble (both f g) n = min (on_nibble f n) (on_nibble g n)
on_nibble (either f g) n = max (on_nibble f n) (on_nibble g n)
on_nibble (neither f) n = 1 - on_nibble f n
on_nibble (left k f) n = 0
on_nibble (right k f) n = 0

on_words-word : (f : Formula) (x : List ℕ) → AreWords 4 x → on_words f x < 2 ^ 32
on_words-word word_0 x words = words.each 0
on_words-word word_1 x words = words.each 1
on_words-word word_2 x words = words.each 2
on_words-word word_3 x words = words.each 3
on_words-word (odd f g) x words =
    xor_lt 32 (on_words f x) (on_words g x) (on_words-word f x words) (on_words-word g x words)
on_words-word (both f g) x words =
    and_lt 32 (on_words f x) (on_words g x) (on_words-word f x words) (on_words-word g x words)
on_words-word (either f g) x words =
    or_lt 32 (on_words f x) (on_words g x) (on_words-word f x words) (on_words-word g x words)
on_words-word (neither f) x words = omega arith
on_words-word (left k f) x words = omega arith
on_words-word (right k f) x words =
    omega (arith, on_words-word f x words, div-le_self (on_words f x) (2 ^ k))

on_nibble-bit : (f : Formula) (n : ℕ) → on_nibble f n < 2
on_nibble-bit word_0 n = bit_at-lt n 0
on_nibble-bit word_1 n = bit_at-lt n 1
on_nibble-bit word_2 n = bit_at-lt n 2
on_nibble-bit word_3 n = bit_at-lt n 3
on_nibble-bit (odd f g) n = omega arith
on_nibble-bit (both f g) n = omega (arith, on_nibble-bit f n)
on_nibble-bit (either f g) n = omega (arith, on_nibble-bit f n, on_nibble-bit g n)
on_nibble-bit (neither f) n = omega arith
on_nibble-bit (left k f) n = omega arith
on_nibble-bit (right k f) n = omega arith

-- bit i of the value on words is the value on nibble i
bit_by_bit : (f : Formula) (x : List ℕ) (i : ℕ) → is_bitwise f ≡ true → AreWords 4 x → i < 32
    → bit_at (on_words f x) i ≡ on_nibble f (nibble x i)
bit_by_bit word_0 x i local words below = sym (nibble-bits x i).place_0
bit_by_bit word_1 x i local words below = sym (nibble-bits x i).place_1
bit_by_bit word_2 x i local words below = sym (nibble-bits x i).place_2
bit_by_bit word_3 x i local words below = sym (nibble-bits x i).place_3
bit_by_bit (odd f g) x i local words below =
    let parts = both_of (is_bitwise f) (is_bitwise g) local in
    bit_at_xor (on_words f x) (on_words g x) i
    ∙ ap₂ (λ (a b : ℕ). (a + b) % 2) (bit_by_bit f x i parts.0 words below)
    (bit_by_bit g x i parts.1 words below)
bit_by_bit (both f g) x i local words below =
    let parts = both_of (is_bitwise f) (is_bitwise g) local in
    bit_at_and (on_words f x) (on_words g x) i
    ∙ ap₂ min (bit_by_bit f x i parts.0 words below) (bit_by_bit g x i parts.1 words below)
bit_by_bit (either f g) x i local words below =
    let parts = both_of (is_bitwise f) (is_bitwise g) local in
    bit_at_or (on_words f x) (on_words g x) i
    ∙ ap₂ max (bit_by_bit f x i parts.0 words below) (bit_by_bit g x i parts.1 words below)
bit_by_bit (neither f) x i local words below =
    bit_at_not w32 (on_words f x) i (on_words-word f x words) below
    ∙ ap (λ (a : ℕ). 1 - a) (bit_by_bit f x i local words below)
bit_by_bit (left k f) x i local words below = cc
bit_by_bit (right k f) x i local words below = cc

-- in each lane the value is that on the state of the lane
lane_by_lane : (f : Formula) (x : List (List ℕ)) → AreLanes x
    → Mapped (λ j. on_words f (lane j x)) (on_lanes f x)
lane_by_lane word_0 x lanes = record { long = (lanes.row 0 (omega arith)).count; at = λ j below. refl }
lane_by_lane word_1 x lanes = record { long = (lanes.row 1 (omega arith)).count; at = λ j below. refl }
lane_by_lane word_2 x lanes = record { long = (lanes.row 2 (omega arith)).count; at = λ j below. refl }
lane_by_lane word_3 x lanes = record { long = (lanes.row 3 (omega arith)).count; at = λ j below. refl }
lane_by_lane (odd f g) x lanes =
    zipped bit_xor _ _ _ _ (lane_by_lane f x lanes) (lane_by_lane g x lanes)
lane_by_lane (both f g) x lanes =
    zipped bit_and _ _ _ _ (lane_by_lane f x lanes) (lane_by_lane g x lanes)
lane_by_lane (either f g) x lanes =
    zipped bit_or _ _ _ _ (lane_by_lane f x lanes) (lane_by_lane g x lanes)
lane_by_lane (neither f) x lanes = mapped (bit_not w32) _ _ (lane_by_lane f x lanes)
lane_by_lane (left k f) x lanes =
    zipped_splat (λ (a b : ℕ). a * 2 ^ b % 2 ^ 32) k _ _ (lane_by_lane f x lanes)
lane_by_lane (right k f) x lanes =
    zipped_splat (λ (a b : ℕ). a / 2 ^ b) k _ _ (lane_by_lane f x lanes)

-- ---- four formulas, for the four words of the result

pub record Formulas : Type 0 where
  pub for_0 : Formula
  pub for_1 : Formula
  pub for_2 : Formula
  pub for_3 : Formula

abbrev pub made : Formulas → List ℕ → List ℕ
made fs x =
    on_words fs.for_0 x ∷ on_words fs.for_1 x ∷ on_words fs.for_2 x ∷ on_words fs.for_3 x ∷ []

abbrev pub made_lanes : Formulas → List (List ℕ) → List (List ℕ)
made_lanes fs x =
    on_lanes fs.for_0 x ∷ on_lanes fs.for_1 x ∷ on_lanes fs.for_2 x ∷ on_lanes fs.for_3 x ∷ []

pub in_lanes : (fs : Formulas) (x : List (List ℕ)) → AreLanes x
    → InEachLane (made fs) x (made_lanes fs x)
in_lanes fs x lanes =
    let value : (f : Formula) → Mapped (λ j. on_words f (lane j x)) (on_lanes f x)
    = λ f. lane_by_lane f x lanes in
    words_from_lanes (made fs) x _ _ _ _ _ _ _ _ (value fs.for_0) (value fs.for_1) (value fs.for_2)
    (value fs.for_3)
    (λ j below. let words : AreWords 4 (lane j x) = lane-words j x lanes in
    are_four _ _ _ _ (on_words-word fs.for_0 (lane j x) words)
    (on_words-word fs.for_1 (lane j x) words) (on_words-word fs.for_2 (lane j x) words)
    (on_words-word fs.for_3 (lane j x) words))
    (λ j below. refl)

abbrev pub are_bitwise : Formulas → Bool
are_bitwise fs =
    (is_bitwise fs.for_0 && is_bitwise fs.for_1) && (is_bitwise fs.for_2 && is_bitwise fs.for_3)

-- what they make of a nibble
abbrev pub made_of : Formulas → ℕ → ℕ
made_of fs n =
    of_four (on_nibble fs.for_0 n) (on_nibble fs.for_1 n) (on_nibble fs.for_2 n)
    (on_nibble fs.for_3 n)

record Bitwise (fs : Formulas) : Type 0 where
  first : is_bitwise fs.for_0 ≡ true
  second : is_bitwise fs.for_1 ≡ true
  third : is_bitwise fs.for_2 ≡ true
  fourth : is_bitwise fs.for_3 ≡ true

all_bitwise : (fs : Formulas) → are_bitwise fs ≡ true → Bitwise fs
all_bitwise fs local =
    let halves = both_of (is_bitwise fs.for_0 && is_bitwise fs.for_1)
    (is_bitwise fs.for_2 && is_bitwise fs.for_3) local in
    let low = both_of (is_bitwise fs.for_0) (is_bitwise fs.for_1) halves.0 in
    let high = both_of (is_bitwise fs.for_2) (is_bitwise fs.for_3) halves.1 in
    record { first = low.0; second = low.1; third = high.0; fourth = high.1 }

-- the bits of place i in what they make of a state are those of the table's entry
has_bits : (fs : Formulas) (f : ℕ → ℕ) (x : List ℕ) (i : ℕ) → agree_below (made_of fs) f 16 ≡ true
    → Bitwise fs → AreWords 4 x → i < 32
    → HasBits (f (nibble x i)) (bit_at (on_words fs.for_0 x) i) (bit_at (on_words fs.for_1 x) i)
    (bit_at (on_words fs.for_2 x) i) (bit_at (on_words fs.for_3 x) i)
has_bits fs f x i computed local words below =
    let n : ℕ = nibble x i in
    let bit : (g : Formula) → on_nibble g n < 2 = λ g. on_nibble-bit g n in
    let on_place : (g : Formula) → is_bitwise g ≡ true → on_nibble g n ≡ bit_at (on_words g x) i
    = λ g bitwise. sym (bit_by_bit g x i bitwise words below) in
    let entry_of : f n ≡ made_of fs n
    = sym (agree_at (made_of fs) f 16 computed n (nibble-below x i)) in
    let bits = bits_of_nibble (on_nibble fs.for_0 n) (on_nibble fs.for_1 n)
    (on_nibble fs.for_2 n) (on_nibble fs.for_3 n)
    (bit fs.for_0) (bit fs.for_1) (bit fs.for_2) (bit fs.for_3) in
    record {
      place_0 = ap (λ (m : ℕ). bit_at m 0) entry_of ∙ bits.place_0 ∙ on_place fs.for_0 local.first;
      place_1 = ap (λ (m : ℕ). bit_at m 1) entry_of ∙ bits.place_1 ∙ on_place fs.for_1 local.second;
      place_2 = ap (λ (m : ℕ). bit_at m 2) entry_of ∙ bits.place_2 ∙ on_place fs.for_2 local.third;
      place_3 = ap (λ (m : ℕ). bit_at m 3) entry_of ∙ bits.place_3 ∙ on_place fs.for_3 local.fourth;
    }

-- formulas that agree with a table at the 16 nibbles are that box
is_box : (fs : Formulas) (f : ℕ → ℕ) → agree_below (made_of fs) f 16 ≡ true → Bitwise fs
    → (x : List ℕ) → AreWords 4 x → made fs x ≡ substituted f x
is_box fs f computed local x words =
    let word : (g : Formula) → on_words g x < 2 ^ 32 = λ g. on_words-word g x words in
    same_state f x _ _ _ _
    (are_four _ _ _ _ (word fs.for_0) (word fs.for_1) (word fs.for_2) (word fs.for_3))
    (λ i below. has_bits fs f x i computed local words below)

-- the formulas are each box of a table that is counted as b, modulo 8
pub record Computes (fs : Formulas) (table : ℕ → ℕ → ℕ) (b : ℕ) : Type 0 where
  pub on_state : (k : ℕ) (x : List ℕ) → k % 8 ≡ b → AreWords 4 x
      → made fs x ≡ substituted (table k) x
  pub on_lanes : (k : ℕ) (x : List (List ℕ)) → k % 8 ≡ b → AreLanes x
      → InEachLane (substituted (table k)) x (made_lanes fs x)

pub computes : (fs : Formulas) (table : ℕ → ℕ → ℕ) (b : ℕ)
    → agree_below (made_of fs) (table b) 16 ≡ true → are_bitwise fs ≡ true
    → ((k r : ℕ) → k % 8 ≡ r % 8 → table k ≡ table r) → b % 8 ≡ b → Computes fs table b
computes fs table b computed local modulo counted =
    let box : (k : ℕ) (x : List ℕ) → k % 8 ≡ b → AreWords 4 x → made fs x ≡ substituted (table k) x
    = λ k x same words.
    is_box fs (table b) computed (all_bitwise fs local) x words
    ∙ ap (λ (f : ℕ → ℕ). substituted f x) (modulo b k (counted ∙ sym same)) in
    record {
      on_state = box;
      on_lanes = λ k x same lanes.
          let made = in_lanes fs x lanes in
          record {
            lanes = made.lanes;
            each = λ j below. made.each j below ∙ box k (lane j x) same (lane-words j x lanes);
          };
    }
