-- The 32 terms of a polynomial reversed.
--
-- Bit i of the reflected number is the coefficient of x^(31 - i). So a sum is reflected term by term, and
-- times x is a shift to the right, after which the polynomial is added where the lowest bit fell out.
use Rattle.std.proofs.Common.{◌≡◌, ◌<◌, ◌≤◌, ℕ, zero, suc, ◌+◌, ◌-◌, ◌*◌, ◌/◌, ◌%◌, ◌^◌, ◌==◌, nat_lt, bit_xor, Bool, true, false, if◌then◌else◌, List, [], ◌∷◌, length, get_or, reverse, refl, sym, ap, ap₂, ◌∙◌, subst, arith, inl, inr}
use Rattle.std.proofs.lemmas.Bool.{cases_lt, cond_both, ltb-true, ltb-false}
use Rattle.std.proofs.lemmas.List.{get_or-reverse, length-reverse}
use Rattle.std.proofs.lemmas.Nat.Bits.{bit_at_lowest, bit_at-suc, bit_at-zero, bit_at-lt, bit_at_xor, bit_at_above, same_from_bits_below}
use Rattle.std.proofs.Math.Nat.{pow-suc}
use Rattle.std.specs.Int.{bit_at}
use lib.Bits.{xor_zero_r, xor_lt}
use Rattle.vc_base.specs.Polynomial.{number, coefficients, reduced}
use Rattle.vc_base.proofs.Remainders.{length-coefficients}
use Rattle.vc_header.specs.Crc.{crc_polynomial, reflected}

-- ---- bits and coefficients

half_of : (c : Bool) (n : ℕ) → ((if c then 1 else 0) + 2 * n) / 2 ≡ n
half_of true n = omega arith
half_of false n = omega arith

parity_of : (c : Bool) (n : ℕ) → ((if c then 1 else 0) + 2 * n) % 2 ≡ (if c then 1 else 0)
parity_of true n = omega arith
parity_of false n = omega arith

bit_at-number : (cs : List Bool) (i : ℕ) → bit_at (number cs) i ≡ (if get_or cs i false then 1 else 0)
unfolding number
bit_at-number [] i = bit_at-zero i
bit_at-number (c ∷ cs) zero = bit_at_lowest ((if c then 1 else 0) + 2 * number cs) ∙ parity_of c (number cs)
bit_at-number (c ∷ cs) (suc i) =
    bit_at-suc ((if c then 1 else 0) + 2 * number cs) i
    ∙ ap (λ (x : ℕ). bit_at x i) (half_of c (number cs))
    ∙ bit_at-number cs i

get_or-coefficients : (n p i : ℕ) → i < n → get_or (coefficients n p) i false ≡ (bit_at p i == 1)
unfolding coefficients
get_or-coefficients zero p i below = absurd (omega arith)
get_or-coefficients (suc n) p zero below = ap (λ (x : ℕ). x == 1) (sym (bit_at_lowest p))
get_or-coefficients (suc n) p (suc i) below =
    get_or-coefficients n (p / 2) i (omega arith) ∙ ap (λ (x : ℕ). x == 1) (sym (bit_at-suc p i))

bit_again : (x : ℕ) → x < 2 → (if x == 1 then 1 else 0) ≡ x
bit_again zero below = refl
bit_again (suc zero) below = refl
bit_again (suc (suc x)) below = absurd (omega arith)

pub number_below : (cs : List Bool) → number cs < 2 ^ length cs
unfolding number
number_below [] = omega arith
number_below (true ∷ cs) = omega (arith, number_below cs, pow-suc 2 (length cs))
number_below (false ∷ cs) = omega (arith, number_below cs, pow-suc 2 (length cs))

-- ---- reflected polynomials

bit_of_reversed : (cs : List Bool) (last i : ℕ) → length cs ≡ suc last → i ≤ last
    → bit_at (number (reverse cs)) i ≡ (if get_or cs (last - i) false then 1 else 0)
bit_of_reversed cs last i count within =
    let place : length cs - 1 - i ≡ last - i = omega arith in
    let picked : get_or (reverse cs) i false ≡ get_or cs (last - i) false
    = get_or-reverse cs i false (omega arith) ∙ ap (λ (j : ℕ). get_or cs j false) place in
    bit_at-number (reverse cs) i ∙ ap (λ (b : Bool). if b then 1 else 0) picked

bit_reflected : (p i : ℕ) → i < 32 → bit_at (reflected p) i ≡ bit_at p (31 - i)
bit_reflected p i below =
    bit_of_reversed (coefficients 32 p) 31 i (length-coefficients 32 p) (omega arith)
    ∙ ap (λ (b : Bool). if b then 1 else 0) (get_or-coefficients 32 p (31 - i) (omega arith))
    ∙ bit_again (bit_at p (31 - i)) (bit_at-lt p (31 - i))

pub reflected_below : (p : ℕ) → reflected p < 2 ^ 32
reflected_below p =
    let count : length (reverse (coefficients 32 p)) ≡ 32
    = length-reverse (coefficients 32 p) ∙ length-coefficients 32 p in
    subst (λ (n : ℕ). reflected p < 2 ^ n) count (number_below (reverse (coefficients 32 p)))

-- a sum is reflected term by term
pub reflected-xor : (a b : ℕ) → reflected (bit_xor a b) ≡ bit_xor (reflected a) (reflected b)
reflected-xor a b =
    same_from_bits_below 32 (reflected (bit_xor a b)) (bit_xor (reflected a) (reflected b))
    (reflected_below (bit_xor a b))
    (xor_lt 32 (reflected a) (reflected b) (reflected_below a) (reflected_below b))
    (λ i below.
    bit_reflected (bit_xor a b) i below
    ∙ bit_at_xor a b (31 - i)
    ∙ ap₂ (λ (x y : ℕ). (x + y) % 2) (sym (bit_reflected a i below)) (sym (bit_reflected b i below))
    ∙ sym (bit_at_xor (reflected a) (reflected b) i))

-- times x is a shift to the right
pub reflected-double : (p : ℕ) → reflected (2 * p) ≡ reflected p / 2
reflected-double p =
    let small : reflected p < 2 ^ 32 = reflected_below p in
    let twice : 2 * p / 2 ≡ p = omega arith in
    same_from_bits_below 32 (reflected (2 * p)) (reflected p / 2) (reflected_below (2 * p)) (omega arith)
    (λ i below. elim (cases_lt i 31) [
      | inl lower ↦
          let above : 31 - i ≡ suc (30 - i) = omega arith in
          let same : 30 - i ≡ 31 - suc i = omega arith in
          bit_reflected (2 * p) i below
          ∙ ap (bit_at (2 * p)) above
          ∙ bit_at-suc (2 * p) (30 - i)
          ∙ ap₂ bit_at twice same
          ∙ sym (bit_reflected p (suc i) (omega arith))
          ∙ bit_at-suc (reflected p) i
      | inr top ↦
          let last : i ≡ 31 = omega arith in
          let even : 2 * p % 2 ≡ 0 = omega arith in
          let left : bit_at (reflected (2 * p)) 31 ≡ 0
          = bit_reflected (2 * p) 31 (omega arith) ∙ bit_at_lowest (2 * p) ∙ even in
          let right : bit_at (reflected p / 2) 31 ≡ 0
          = sym (bit_at-suc (reflected p) 31) ∙ bit_at_above (reflected p) 32 32 small (omega arith) in
          subst (λ (j : ℕ). bit_at (reflected (2 * p)) j ≡ bit_at (reflected p / 2) j) (sym last)
          (left ∙ sym right)
    ])

-- ---- a step of the register

-- times x modulo the polynomial, reflected
unfoldable pub step : ℕ → ℕ
step r = bit_xor (r / 2) (if r % 2 == 1 then 0xedb88320 else 0)

step_even : (r : ℕ) → r % 2 ≡ 0 → step r ≡ r / 2
unfolding step
step_even r even =
    ap (λ (x : ℕ). bit_xor (r / 2) (if x == 1 then 0xedb88320 else 0)) even ∙ xor_zero_r (r / 2)

step_odd : (r : ℕ) → r % 2 ≡ 1 → step r ≡ bit_xor (r / 2) 0xedb88320
unfolding step
step_odd r odd = ap (λ (x : ℕ). bit_xor (r / 2) (if x == 1 then 0xedb88320 else 0)) odd

polynomial_reflected : reflected crc_polynomial ≡ 0xedb88320
unfolding number coefficients
polynomial_reflected = refl

lowest_reflected : (p : ℕ) → reflected p % 2 ≡ p / 2 ^ 31 % 2
lowest_reflected p = sym (bit_at_lowest (reflected p)) ∙ bit_reflected p 0 (omega arith)

pub reflected-reduced : (p : ℕ) → p < 2 ^ 32
    → reflected (reduced 32 crc_polynomial (2 * p)) ≡ step (reflected p)
reflected-reduced p below =
    cond_both (nat_lt (2 * p) (2 ^ 32)) (2 * p) (bit_xor (2 * p) crc_polynomial)
    (λ x. reflected x ≡ step (reflected p))
    (λ e.
    let small : 2 * p < 2 ^ 32 = ltb-true (2 * p) (2 ^ 32) e in
    let bit : p / 2 ^ 31 % 2 ≡ 0 = omega arith in
    reflected-double p ∙ sym (step_even (reflected p) (lowest_reflected p ∙ bit)))
    (λ e.
    let large : 2 ^ 32 ≤ 2 * p = ltb-false (2 * p) (2 ^ 32) e in
    let bit : p / 2 ^ 31 % 2 ≡ 1 = omega arith in
    reflected-xor (2 * p) crc_polynomial
    ∙ ap₂ bit_xor (reflected-double p) polynomial_reflected
    ∙ sym (step_odd (reflected p) (lowest_reflected p ∙ bit)))
