-- XOR as the sum of polynomials.
--
-- Sums commute with x^k, that is, with 2^k. A sum of parts that share no bit is the sum of numbers. Terms
-- of a sum may change places, and equal ones cancel. The first two are std's lemmas on blocks of bits.
use Rattle.std.proofs.Common.{◌≡◌, ◌<◌, ◌≤◌, ℕ, ◌+◌, ◌-◌, ◌*◌, ◌^◌, bit_xor, sym, ap, ap₂, ◌∙◌, subst, arith, pow_pos, not-le_of_lt, ⊎_elim}
use Rattle.std.proofs.lemmas.Bool.{cases_lt}
use Rattle.std.proofs.lemmas.Grind.{pow_more}
use lib.Bits.{xor_block, xor_shifted, xor_comm, xor_assoc, xor_self, xor_zero_r, xor_lt}

-- ---- places and cancelling

pub xor_cancel : (a b : ℕ) → bit_xor (bit_xor a b) b ≡ a
xor_cancel a b = xor_assoc a b b ∙ ap (bit_xor a) (xor_self b) ∙ xor_zero_r a

pub xor_cancel_first : (a b : ℕ) → bit_xor a (bit_xor a b) ≡ b
xor_cancel_first a b = sym (xor_assoc a a b) ∙ ap (λ (x : ℕ). bit_xor x b) (xor_self a)

-- a ⊕ (b ⊕ c) ≡ b ⊕ (a ⊕ c)
pub xor_left_comm : (a b c : ℕ) → bit_xor a (bit_xor b c) ≡ bit_xor b (bit_xor a c)
xor_left_comm a b c = sym (xor_assoc a b c) ∙ ap (λ (x : ℕ). bit_xor x c) (xor_comm a b)
    ∙ xor_assoc b a c

-- (a ⊕ b) ⊕ c ≡ (a ⊕ c) ⊕ b
pub xor_right_comm : (a b c : ℕ) → bit_xor (bit_xor a b) c ≡ bit_xor (bit_xor a c) b
xor_right_comm a b c = xor_assoc a b c ∙ ap (bit_xor a) (xor_comm b c) ∙ sym (xor_assoc a c b)

-- (a ⊕ b) ⊕ (c ⊕ d) ≡ (a ⊕ c) ⊕ (b ⊕ d)
pub xor_middle : (a b c d : ℕ)
    → bit_xor (bit_xor a b) (bit_xor c d) ≡ bit_xor (bit_xor a c) (bit_xor b d)
xor_middle a b c d =
    xor_assoc a b (bit_xor c d)
    ∙ ap (bit_xor a) (xor_left_comm b c d)
    ∙ sym (xor_assoc a c (bit_xor b d))

-- a term goes to the other side
pub xor_move : (a b c : ℕ) → a ≡ bit_xor b c → c ≡ bit_xor b a
xor_move a b c e = sym (ap (bit_xor b) e ∙ xor_cancel_first b c)

pub same_from_zero_xor : (a b : ℕ) → bit_xor a b ≡ 0 → a ≡ b
same_from_zero_xor a b e = sym (xor_cancel a b) ∙ ap (λ (x : ℕ). bit_xor x b) e

-- ---- times x^k

pub pow_xor : (k a b : ℕ) → 2 ^ k * bit_xor a b ≡ bit_xor (2 ^ k * a) (2 ^ k * b)
pow_xor k a b =
    let left : 2 ^ k * a ≡ a * 2 ^ k + 0 = omega arith in
    let right : 2 ^ k * b ≡ b * 2 ^ k + 0 = omega arith in
    let whole : 2 ^ k * bit_xor a b ≡ bit_xor a b * 2 ^ k + 0 = omega arith in
    whole ∙ sym (xor_block k a b 0 0 (pow_pos k) (pow_pos k)) ∙ sym (ap₂ bit_xor left right)

pub double_xor : (a b : ℕ) → 2 * bit_xor a b ≡ bit_xor (2 * a) (2 * b)
double_xor a b = pow_xor 1 a b

pub byte_xor : (a b : ℕ) → 256 * bit_xor a b ≡ bit_xor (256 * a) (256 * b)
byte_xor a b = pow_xor 8 a b

-- ---- parts that share no bit

pub xor_low : (k c q : ℕ) → c < 2 ^ k → bit_xor c (2 ^ k * q) ≡ c + 2 ^ k * q
xor_low k c q below =
    let high : 2 ^ k * q ≡ q * 2 ^ k = omega arith in
    let turned : q * 2 ^ k + c ≡ c + 2 ^ k * q = omega arith in
    ap (bit_xor c) high ∙ xor_comm c (q * 2 ^ k) ∙ xor_shifted q k c below ∙ turned

pub xor_bit : (c q : ℕ) → c < 2 → bit_xor c (2 * q) ≡ c + 2 * q
xor_bit c q below = xor_low 1 c q below

pub xor_byte : (c q : ℕ) → c < 256 → bit_xor c (256 * q) ≡ c + 256 * q
xor_byte c q below = xor_low 8 c q below

-- low parts and high parts add apart
pub xor_parts : (k a b p q : ℕ) → a < 2 ^ k → b < 2 ^ k
    → bit_xor (a + 2 ^ k * p) (b + 2 ^ k * q) ≡ bit_xor a b + 2 ^ k * bit_xor p q
xor_parts k a b p q below_a below_b =
    let left : a + 2 ^ k * p ≡ p * 2 ^ k + a = omega arith in
    let right : b + 2 ^ k * q ≡ q * 2 ^ k + b = omega arith in
    let turned : bit_xor p q * 2 ^ k + bit_xor a b ≡ bit_xor a b + 2 ^ k * bit_xor p q = omega arith in
    ap₂ bit_xor left right ∙ xor_block k p q a b below_a below_b ∙ turned

pub xor_parts_byte : (a b p q : ℕ) → a < 256 → b < 256
    → bit_xor (a + 256 * p) (b + 256 * q) ≡ bit_xor a b + 256 * bit_xor p q
xor_parts_byte a b p q below_a below_b = xor_parts 8 a b p q below_a below_b

-- ---- degrees

-- what is below x^k changes no degree from k on
pub xor_high : (k a b : ℕ) → a < 2 ^ k → 2 ^ k ≤ b → 2 ^ k ≤ bit_xor a b
xor_high k a b below above = ⊎_elim {C = 2 ^ k ≤ bit_xor a b}
    (λ small. absurd (not-le_of_lt
    (subst (λ (x : ℕ). x < 2 ^ k) (xor_cancel_first a b)
    (xor_lt k a (bit_xor a b) below small)) above))
    (λ large. large)
    (cases_lt (bit_xor a b) (2 ^ k))

-- two polynomials of degree k have a sum of a lower degree
pub xor_leading : (k a b : ℕ) → 2 ^ k ≤ a → a < 2 ^ (k + 1) → 2 ^ k ≤ b → b < 2 ^ (k + 1)
    → bit_xor a b < 2 ^ k
xor_leading k a b leads_a below_a leads_b below_b =
    let power : 2 ^ (k + 1) ≡ 2 ^ k * 2 = pow_more 2 k in
    let rest_a : a - 2 ^ k < 2 ^ k = omega arith in
    let rest_b : b - 2 ^ k < 2 ^ k = omega arith in
    let left : a ≡ (a - 2 ^ k) + 2 ^ k * 1 = omega arith in
    let right : b ≡ (b - 2 ^ k) + 2 ^ k * 1 = omega arith in
    let same : bit_xor a b ≡ bit_xor (a - 2 ^ k) (b - 2 ^ k) + 2 ^ k * 0
    = ap₂ bit_xor left right ∙ xor_parts k (a - 2 ^ k) (b - 2 ^ k) 1 1 rest_a rest_b in
    let below : bit_xor (a - 2 ^ k) (b - 2 ^ k) < 2 ^ k
    = xor_lt k (a - 2 ^ k) (b - 2 ^ k) rest_a rest_b in
    omega arith
