-- Words and their rotations by one bit.
use Rattle.std.proofs.Common.{◌≡◌, ◌<◌, ◌+◌, ◌*◌, ◌/◌, ◌%◌, ◌^◌, [], ◌∷◌, ℕ, bit_xor, bit_or, refl, ap, ap₂, ◌∙◌, arith, w32}
use Rattle.std.specs.Int.{rotate_left, rotate_right}
use Rattle.std.specs.Int.Bits.{or_shifted_r}
use Rattle.std.proofs.lemmas.Nat.{or_shifted, xor_lt}

-- ---- four words

pub same_four : (a b c d a' b' c' d' : ℕ) → a ≡ a' → b ≡ b' → c ≡ c' → d ≡ d'
    → a ∷ b ∷ c ∷ d ∷ [] ≡ a' ∷ b' ∷ c' ∷ d' ∷ []
same_four a b c d a' b' c' d' same_a same_b same_c same_d =
    ap₂ ◌∷◌ same_a (ap₂ ◌∷◌ same_b (ap₂ ◌∷◌ same_c (ap₂ ◌∷◌ same_d refl)))

-- ---- XOR and rotations of words

pub xor_word : (a b : ℕ) → a < 2 ^ 32 → b < 2 ^ 32 → bit_xor a b < 2 ^ 32
xor_word a b is_a is_b = xor_lt 32 a b is_a is_b

left_parts : (x : ℕ) → x < 2 ^ 32 → rotate_left w32 x 1 ≡ x % 2 ^ 31 * 2 + x / 2 ^ 31
left_parts x is =
    let low : (x * 2) % 2 ^ 32 ≡ x % 2 ^ 31 * 2 = omega arith in
    ap (λ (y : ℕ). bit_or y (x / 2 ^ 31)) low ∙ or_shifted (x % 2 ^ 31) 1 (x / 2 ^ 31) (omega arith)

right_parts : (x : ℕ) → x < 2 ^ 32 → rotate_right w32 x 1 ≡ x % 2 * 2 ^ 31 + x / 2
right_parts x is =
    let high : (x * 2 ^ 31) % 2 ^ 32 ≡ x % 2 * 2 ^ 31 = omega arith in
    ap (bit_or (x / 2)) high ∙ or_shifted_r (x % 2) 31 (x / 2) (omega arith)

pub left_word : (x : ℕ) → x < 2 ^ 32 → rotate_left w32 x 1 < 2 ^ 32
left_word x is = omega (arith, left_parts x is)

pub right_word : (x : ℕ) → x < 2 ^ 32 → rotate_right w32 x 1 < 2 ^ 32
right_word x is = omega (arith, right_parts x is)

pub left_of_right : (x : ℕ) → x < 2 ^ 32 → rotate_left w32 (rotate_right w32 x 1) 1 ≡ x
left_of_right x is =
    left_parts (rotate_right w32 x 1) (right_word x is) ∙ omega (arith, right_parts x is)

pub right_of_left : (x : ℕ) → x < 2 ^ 32 → rotate_right w32 (rotate_left w32 x 1) 1 ≡ x
right_of_left x is =
    right_parts (rotate_left w32 x 1) (left_word x is) ∙ omega (arith, left_parts x is)
