-- The linear transformation and its inverse undo each other on states.
--
-- A word rotated left by j is its lowest 32 - j bits, followed by its highest j: so rotating it right
-- by j puts the two parts back. What was added to a word goes when it is added again.
use Rattle.std.proofs.Common.{◌≡◌, ◌<◌, ◌+◌, ◌*◌, ◌/◌, ◌%◌, ◌^◌, List, ◌∷◌, ℕ, slice_index, refl, sym, ap, ap₂, ◌∙◌, arith, bit_xor, bit_or, pow_pos}
use Rattle.std.specs.Int.Bits.{or_shifted_r}
use Rattle.std.proofs.lemmas.Nat.{or_lt, or_comm, or_shifted, xor_lt, pow-add, mod-pow-add, div-mul-add, mod-mul-add, div-add-mod'}
use Rattle.std.proofs.Math.Nat.{mul-div_cancel, mul-mod_left, mod-lt, lt_of_mul-lt-mul_right}
use Rattle.vc_base.proofs.Xor.{xor_cancel, xor_right_comm}
use Rattle.vc_base.specs.Words.{AreWords}
use Rattle.lane_kernels.specs.SerpentRounds.{xor_three, shifted, linear, inverse_linear}
use Rattle.vc_base.proofs.FourWords.{four, are_four}

-- ---- rotations

-- a word rotated left by j, and one rotated right by j, where j + k is 32
abbrev left : ℕ → ℕ → ℕ → ℕ
left j k x = bit_or (x * 2 ^ j % 2 ^ 32) (x / 2 ^ k)

abbrev right : ℕ → ℕ → ℕ → ℕ
right j k x = bit_or (x / 2 ^ j) (x * 2 ^ k % 2 ^ 32)

-- what a shift leaves of a word
shift_left : (j k x : ℕ) → j + k ≡ 32 → x * 2 ^ j % 2 ^ 32 ≡ (x % 2 ^ k) * 2 ^ j
shift_left j k x whole =
    let width : 32 ≡ k + j = omega arith in
    let high : x * 2 ^ j / 2 ^ j ≡ x = mul-div_cancel x (pow_pos j) in
    let low : x * 2 ^ j % 2 ^ j ≡ 0 = mul-mod_left x (2 ^ j) in
    ap (λ (n : ℕ). x * 2 ^ j % 2 ^ n) width
    ∙ mod-pow-add (x * 2 ^ j) k j
    ∙ ap₂ (λ (h l : ℕ). (h % 2 ^ k) * 2 ^ j + l) high low
    ∙ omega arith

shift_right_below : (j k x : ℕ) → j + k ≡ 32 → x < 2 ^ 32 → x / 2 ^ k < 2 ^ j
shift_right_below j k x whole word =
    let power : 2 ^ 32 ≡ 2 ^ j * 2 ^ k = ap (λ (n : ℕ). 2 ^ n) (sym whole) ∙ pow-add 2 j k in
    let parts : x / 2 ^ k * 2 ^ k + x % 2 ^ k ≡ x = div-add-mod' x (2 ^ k) in
    lt_of_mul-lt-mul_right (2 ^ k) (omega arith)

left_word : (j k x : ℕ) → j + k ≡ 32 → x < 2 ^ 32 → left j k x < 2 ^ 32
left_word j k x whole word = or_lt 32 (x * 2 ^ j % 2 ^ 32) (x / 2 ^ k) (omega arith) (omega arith)

right_word : (j k x : ℕ) → j + k ≡ 32 → x < 2 ^ 32 → right j k x < 2 ^ 32
right_word j k x whole word = or_lt 32 (x / 2 ^ j) (x * 2 ^ k % 2 ^ 32) (omega arith) (omega arith)

left_parts : (j k x : ℕ) → j + k ≡ 32 → x < 2 ^ 32 → left j k x ≡ (x % 2 ^ k) * 2 ^ j + x / 2 ^ k
left_parts j k x whole word =
    ap (λ (h : ℕ). bit_or h (x / 2 ^ k)) (shift_left j k x whole)
    ∙ or_shifted (x % 2 ^ k) j (x / 2 ^ k) (shift_right_below j k x whole word)

pub left_undone : (j k x : ℕ) → j + k ≡ 32 → x < 2 ^ 32 → right j k (left j k x) ≡ x
left_undone j k x whole word =
    let low : ℕ = x % 2 ^ k in
    let high : ℕ = x / 2 ^ k in
    let small : high < 2 ^ j = shift_right_below j k x whole word in
    let y : ℕ = low * 2 ^ j + high in
    let first : y / 2 ^ j ≡ low = div-mul-add low (2 ^ j) high small in
    let second : y * 2 ^ k % 2 ^ 32 ≡ high * 2 ^ k
    = shift_left k j y (omega arith) ∙ ap (λ (h : ℕ). h * 2 ^ k)
    (mod-mul-add low (2 ^ j) high small) in
    ap (right j k) (left_parts j k x whole word)
    ∙ ap₂ bit_or first second
    ∙ or_shifted_r high k low (mod-lt x (pow_pos k))
    ∙ div-add-mod' x (2 ^ k)

pub left_done : (j k x : ℕ) → j + k ≡ 32 → x < 2 ^ 32 → left j k (right j k x) ≡ x
left_done j k x whole word =
    let inner : right j k x ≡ left k j x = or_comm (x / 2 ^ j) (x * 2 ^ k % 2 ^ 32) in
    let y : ℕ = left k j x in
    ap (left j k) inner ∙ or_comm (y * 2 ^ j % 2 ^ 32) (y / 2 ^ k)
    ∙ left_undone k j x (omega arith) word

-- ---- three words added

xor_three_word : (a b c : ℕ) → a < 2 ^ 32 → b < 2 ^ 32 → c < 2 ^ 32 → xor_three a b c < 2 ^ 32
xor_three_word a b c a_word b_word c_word =
    xor_lt 32 (bit_xor a b) c (xor_lt 32 a b a_word b_word) c_word

xor_three_undone : (a b c : ℕ) → xor_three (xor_three a b c) b c ≡ a
xor_three_undone a b c =
    ap (λ (x : ℕ). bit_xor x c)
    (ap (λ (x : ℕ). bit_xor x b) (xor_right_comm a b c) ∙ xor_cancel (bit_xor a c) b)
    ∙ xor_cancel a c

-- the words that were added to x, added again
undone_by : (x a b c b' c' : ℕ) → a ≡ xor_three x b' c' → b ≡ b' → c ≡ c' → xor_three a b c ≡ x
undone_by x a b c b' c' is same_b same_c =
    ap₂ bit_xor (ap₂ bit_xor is same_b) same_c ∙ xor_three_undone x b' c'

shifted_word : (x k : ℕ) → shifted x k < 2 ^ 32
shifted_word x k = omega arith

-- ---- the words on the way through the transformation, under the names of its definition

abbrev a0 : List ℕ → ℕ
a0 x = left 13 19 (slice_index x 0)

abbrev a2 : List ℕ → ℕ
a2 x = left 3 29 (slice_index x 2)

abbrev a1 : List ℕ → ℕ
a1 x = xor_three (slice_index x 1) (a0 x) (a2 x)

abbrev a3 : List ℕ → ℕ
a3 x = xor_three (slice_index x 3) (a2 x) (shifted (a0 x) 3)

abbrev b1 : List ℕ → ℕ
b1 x = left 1 31 (a1 x)

abbrev b3 : List ℕ → ℕ
b3 x = left 7 25 (a3 x)

abbrev b0 : List ℕ → ℕ
b0 x = xor_three (a0 x) (b1 x) (b3 x)

abbrev b2 : List ℕ → ℕ
b2 x = xor_three (a2 x) (b3 x) (shifted (b1 x) 7)

record WordsOnTheWay (x : List ℕ) : Type 0 where
  at_a1 : a1 x < 2 ^ 32
  at_a3 : a3 x < 2 ^ 32
  at_b1 : b1 x < 2 ^ 32
  at_b3 : b3 x < 2 ^ 32
  at_b0 : b0 x < 2 ^ 32
  at_b2 : b2 x < 2 ^ 32

words_on_the_way : (x : List ℕ) → AreWords 4 x → WordsOnTheWay x
words_on_the_way x words =
    let of_a0 : a0 x < 2 ^ 32 = left_word 13 19 (slice_index x 0) refl (words.each 0) in
    let of_a2 : a2 x < 2 ^ 32 = left_word 3 29 (slice_index x 2) refl (words.each 2) in
    let of_a1 : a1 x < 2 ^ 32 = xor_three_word (slice_index x 1) (a0 x) (a2 x) (words.each 1) of_a0
    of_a2 in
    let of_a3 : a3 x < 2 ^ 32
    = xor_three_word (slice_index x 3) (a2 x) (shifted (a0 x) 3) (words.each 3) of_a2
    (shifted_word (a0 x) 3) in
    let of_b1 : b1 x < 2 ^ 32 = left_word 1 31 (a1 x) refl of_a1 in
    let of_b3 : b3 x < 2 ^ 32 = left_word 7 25 (a3 x) refl of_a3 in
    record {
      at_a1 = of_a1;
      at_a3 = of_a3;
      at_b1 = of_b1;
      at_b3 = of_b3;
      at_b0 = xor_three_word (a0 x) (b1 x) (b3 x) of_a0 of_b1 of_b3;
      at_b2 = xor_three_word (a2 x) (b3 x) (shifted (b1 x) 7) of_a2 of_b3 (shifted_word (b1 x) 7);
    }

-- ---- and back

abbrev c2 : List ℕ → ℕ
c2 x = right 22 10 (slice_index x 2)

abbrev c0 : List ℕ → ℕ
c0 x = right 5 27 (slice_index x 0)

abbrev d2 : List ℕ → ℕ
d2 x = xor_three (c2 x) (slice_index x 3) (shifted (slice_index x 1) 7)

abbrev d0 : List ℕ → ℕ
d0 x = xor_three (c0 x) (slice_index x 1) (slice_index x 3)

abbrev d3 : List ℕ → ℕ
d3 x = right 7 25 (slice_index x 3)

abbrev d1 : List ℕ → ℕ
d1 x = right 1 31 (slice_index x 1)

record WordsOnTheWayBack (x : List ℕ) : Type 0 where
  at_d2 : d2 x < 2 ^ 32
  at_d0 : d0 x < 2 ^ 32
  at_d3 : d3 x < 2 ^ 32
  at_d1 : d1 x < 2 ^ 32

words_on_the_way_back : (x : List ℕ) → AreWords 4 x → WordsOnTheWayBack x
words_on_the_way_back x words =
    let of_c2 : c2 x < 2 ^ 32 = right_word 22 10 (slice_index x 2) refl (words.each 2) in
    let of_c0 : c0 x < 2 ^ 32 = right_word 5 27 (slice_index x 0) refl (words.each 0) in
    record {
      at_d2 = xor_three_word (c2 x) (slice_index x 3) (shifted (slice_index x 1) 7) of_c2
          (words.each 3)
          (shifted_word (slice_index x 1) 7);
      at_d0 = xor_three_word (c0 x) (slice_index x 1) (slice_index x 3) of_c0 (words.each 1)
          (words.each 3);
      at_d3 = right_word 7 25 (slice_index x 3) refl (words.each 3);
      at_d1 = right_word 1 31 (slice_index x 1) refl (words.each 1);
    }

-- ---- the transformation

pub linear-words : (x : List ℕ) → AreWords 4 x → AreWords 4 (linear x)
unfolding linear
linear-words x words =
    let way = words_on_the_way x words in
    are_four _ _ _ _ (left_word 5 27 (b0 x) refl way.at_b0) way.at_b1
    (left_word 22 10 (b2 x) refl way.at_b2) way.at_b3

pub inverse_linear-words : (x : List ℕ) → AreWords 4 x → AreWords 4 (inverse_linear x)
unfolding inverse_linear
inverse_linear-words x words =
    let way = words_on_the_way_back x words in
    are_four _ _ _ _ (right_word 13 19 (d0 x) refl way.at_d0)
    (xor_three_word (d1 x) (d0 x) (d2 x) way.at_d1 way.at_d0 way.at_d2)
    (right_word 3 29 (d2 x) refl way.at_d2)
    (xor_three_word (d3 x) (d2 x) (shifted (d0 x) 3) way.at_d3 way.at_d2 (shifted_word (d0 x) 3))

-- the steps back meet the words on the way, the last first
pub linear_undone : (x : List ℕ) → AreWords 4 x → inverse_linear (linear x) ≡ x
unfolding linear inverse_linear
linear_undone x words =
    let way = words_on_the_way x words in
    let to_a2 : d2 (linear x) ≡ a2 x
    = undone_by (a2 x) _ _ _ (b3 x) (shifted (b1 x) 7) (left_undone 22 10 (b2 x) refl way.at_b2)
    refl refl in
    let to_a0 : d0 (linear x) ≡ a0 x
    = undone_by (a0 x) _ _ _ (b1 x) (b3 x) (left_undone 5 27 (b0 x) refl way.at_b0) refl refl in
    let to_a3 : d3 (linear x) ≡ a3 x = left_undone 7 25 (a3 x) refl way.at_a3 in
    let to_a1 : d1 (linear x) ≡ a1 x = left_undone 1 31 (a1 x) refl way.at_a1 in
    ap₂ ◌∷◌ (ap (right 13 19) to_a0 ∙ left_undone 13 19 (slice_index x 0) refl (words.each 0))
    (ap₂ ◌∷◌ (undone_by (slice_index x 1) _ _ _ (a0 x) (a2 x) to_a1 to_a0 to_a2)
    (ap₂ ◌∷◌ (ap (right 3 29) to_a2 ∙ left_undone 3 29 (slice_index x 2) refl (words.each 2))
    (ap₂ ◌∷◌ (undone_by (slice_index x 3) _ _ _ (a2 x) (shifted (a0 x) 3) to_a3 to_a2
    (ap (λ (y : ℕ). shifted y 3) to_a0)) refl)))
    ∙ sym (four x words.count)

pub linear_done : (x : List ℕ) → AreWords 4 x → linear (inverse_linear x) ≡ x
unfolding linear inverse_linear
linear_done x words =
    let way = words_on_the_way_back x words in
    let y : List ℕ = inverse_linear x in
    let to_d0 : a0 y ≡ d0 x = left_done 13 19 (d0 x) refl way.at_d0 in
    let to_d2 : a2 y ≡ d2 x = left_done 3 29 (d2 x) refl way.at_d2 in
    let to_d1 : a1 y ≡ d1 x = undone_by (d1 x) _ _ _ (d0 x) (d2 x) refl to_d0 to_d2 in
    let to_d3 : a3 y ≡ d3 x
    = undone_by (d3 x) _ _ _ (d2 x) (shifted (d0 x) 3) refl to_d2
    (ap (λ (z : ℕ). shifted z 3) to_d0) in
    let to_1 : b1 y ≡ slice_index x 1 = ap (left 1 31) to_d1
    ∙ left_done 1 31 (slice_index x 1) refl (words.each 1) in
    let to_3 : b3 y ≡ slice_index x 3 = ap (left 7 25) to_d3
    ∙ left_done 7 25 (slice_index x 3) refl (words.each 3) in
    let to_c0 : b0 y ≡ c0 x = undone_by (c0 x) _ _ _ (slice_index x 1) (slice_index x 3) to_d0 to_1
    to_3 in
    let to_c2 : b2 y ≡ c2 x
    = undone_by (c2 x) _ _ _ (slice_index x 3) (shifted (slice_index x 1) 7) to_d2 to_3
    (ap (λ (z : ℕ). shifted z 7) to_1) in
    ap₂ ◌∷◌ (ap (left 5 27) to_c0 ∙ left_done 5 27 (slice_index x 0) refl (words.each 0))
    (ap₂ ◌∷◌ to_1
    (ap₂ ◌∷◌ (ap (left 22 10) to_c2 ∙ left_done 22 10 (slice_index x 2) refl (words.each 2))
    (ap₂ ◌∷◌ to_3 refl)))
    ∙ sym (four x words.count)
