-- Eight steps of the register are one look into the table.
--
-- steps k r    k steps of a reflected register
-- moved k p    x^k·p modulo the polynomial, of which `steps` is the reflection
--
-- Above the lowest bit a step only shifts. So eight steps act on the lowest byte alone, and above it they
-- shift by a byte. What they make of a byte is compared with the table at each of the 256 by computing.
use Rattle.std.proofs.Common.{◌≡◌, ◌<◌, ℕ, zero, suc, ◌+◌, ◌*◌, ◌/◌, ◌%◌, ◌^◌, ◌==◌, nat_eq, ◌&&◌, bit_xor, Bool, true, false, if◌then◌else◌, get_or, refl, sym, ap, ap₂, ◌∙◌, subst, arith, inl, inr}
use Rattle.std.proofs.lemmas.Bool.Decides.{nat_tests}
use Rattle.std.proofs.lemmas.Bool.{cases_eq}
use Rattle.std.proofs.Math.Nat.{pow-suc}
use lib.Bits.{xor_zero_r, xor_shr, xor_mod}
use Rattle.vc_base.specs.Polynomial.{IsOfDegree, reduced}
use Rattle.vc_base.proofs.Xor.{xor_low, xor_right_comm}
use Rattle.vc_base.proofs.Remainders.{IsCongruent, congruent_self, congruent_double, congruent_chain, congruent_reduced, reduced_below}
use Rattle.vc_header.specs.Crc.{crc_polynomial, reflected}
use Rattle.vc_header.specs.declared.checksum.TheConstants.{EIGHT_STEPS}
use Rattle.vc_header.proofs.Reflected.{step, reflected-reduced}

-- k steps, one after the other
unfoldable pub steps : ℕ → ℕ → ℕ
steps zero r = r
steps (suc k) r = step (steps k r)

-- times x^k modulo the polynomial
unfoldable pub moved : ℕ → ℕ → ℕ
moved zero p = p
moved (suc k) p = reduced 32 crc_polynomial (2 * moved k p)

pub degree : IsOfDegree 32 crc_polynomial
degree = record { leads = omega arith; below = omega arith }

pub moved_below : (k p : ℕ) → p < 2 ^ 32 → moved k p < 2 ^ 32
unfolding moved
moved_below zero p below = below
moved_below (suc k) p below =
    let small : moved k p < 2 ^ 32 = moved_below k p below in
    reduced_below 32 crc_polynomial (2 * moved k p) degree (omega arith)

-- it is congruent to x^k·p
pub moved_congruent : (k p : ℕ) → IsCongruent crc_polynomial (2 ^ k * p) (moved k p)
unfolding moved
moved_congruent zero p =
    let same : p ≡ 1 * p = omega arith in
    subst (λ (x : ℕ). IsCongruent crc_polynomial x p) same (congruent_self crc_polynomial p)
moved_congruent (suc k) p =
    let same : 2 * (2 ^ k * p) ≡ 2 ^ suc k * p = rw (pow-suc 2 k) (omega arith) in
    subst (λ (x : ℕ). IsCongruent crc_polynomial x (moved (suc k) p)) same
    (congruent_chain crc_polynomial (2 * (2 ^ k * p)) (2 * moved k p) (moved (suc k) p)
    (congruent_double crc_polynomial (2 ^ k * p) (moved k p) (moved_congruent k p))
    (congruent_reduced 32 crc_polynomial (2 * moved k p)))

-- times x^k keeps congruence
pub congruent_pow : (k a b : ℕ) → IsCongruent crc_polynomial a b
    → IsCongruent crc_polynomial (2 ^ k * a) (2 ^ k * b)
congruent_pow zero a b near =
    let left : a ≡ 1 * a = omega arith in
    let right : b ≡ 1 * b = omega arith in
    subst (λ (x : ℕ). IsCongruent crc_polynomial x (1 * b)) left
    (subst (λ (x : ℕ). IsCongruent crc_polynomial a x) right near)
congruent_pow (suc k) a b near =
    let left : 2 * (2 ^ k * a) ≡ 2 ^ suc k * a = rw (pow-suc 2 k) (omega arith) in
    let right : 2 * (2 ^ k * b) ≡ 2 ^ suc k * b = rw (pow-suc 2 k) (omega arith) in
    subst (λ (x : ℕ). IsCongruent crc_polynomial x (2 ^ suc k * b)) left
    (subst (λ (x : ℕ). IsCongruent crc_polynomial (2 * (2 ^ k * a)) x) right
    (congruent_double crc_polynomial (2 ^ k * a) (2 ^ k * b) (congruent_pow k a b near)))

-- reflected, it is k steps
pub moved_reflected : (k p : ℕ) → p < 2 ^ 32 → reflected (moved k p) ≡ steps k (reflected p)
unfolding moved steps
moved_reflected zero p below = refl
moved_reflected (suc k) p below =
    reflected-reduced (moved k p) (moved_below k p below) ∙ ap step (moved_reflected k p below)

-- ---- the table

-- above the lowest bit a step only shifts
step_apart : (low high : ℕ) → step (bit_xor low (2 * high)) ≡ bit_xor (step low) high
unfolding step
step_apart low high =
    let half : 2 * high / 2 ≡ high = omega arith in
    let even : 2 * high % 2 ≡ 0 = omega arith in
    let shifted : bit_xor low (2 * high) / 2 ≡ bit_xor (low / 2) high
    = xor_shr low (2 * high) 1 ∙ ap (bit_xor (low / 2)) half in
    let parity : bit_xor low (2 * high) % 2 ≡ low % 2
    = xor_mod low (2 * high) 1 ∙ ap (bit_xor (low % 2)) even ∙ xor_zero_r (low % 2) in
    ap₂ (λ (x y : ℕ). bit_xor x (if y == 1 then 0xedb88320 else 0)) shifted parity
    ∙ xor_right_comm (low / 2) high (if low % 2 == 1 then 0xedb88320 else 0)

-- what stands k bits up comes down to the lowest
steps_apart : (k low high : ℕ) → steps k (bit_xor low (2 ^ k * high)) ≡ bit_xor (steps k low) high
unfolding steps
steps_apart zero low high = ap (bit_xor low) (omega arith)
steps_apart (suc k) low high =
    let same : 2 ^ suc k * high ≡ 2 ^ k * (2 * high) = rw (pow-suc 2 k) (omega arith) in
    ap (λ (x : ℕ). step (steps k (bit_xor low x))) same
    ∙ ap step (steps_apart k low (2 * high))
    ∙ step_apart (steps k low) high

-- f and g agree below n
unfoldable pub agree_below : (ℕ → ℕ) → (ℕ → ℕ) → ℕ → Bool
agree_below f g zero = true
agree_below f g (suc n) = nat_eq (f n) (g n) && agree_below f g n

both_true : (a b : Bool) → a && b ≡ true → (a ≡ true) × (b ≡ true)
both_true true true e = (refl, refl)
both_true true false e = (refl, e)
both_true false b e = absurd (cc)

pub agree_at : (f g : ℕ → ℕ) (n i : ℕ) → agree_below f g n ≡ true → i < n → f i ≡ g i
unfolding agree_below
agree_at f g zero i e below = absurd (omega arith)
agree_at f g (suc n) i e below =
    let parts = both_true (nat_eq (f n) (g n)) (agree_below f g n) e in
    let here : f n ≡ g n = grind (arith, nat_tests, parts.0) in
    elim (cases_eq i n) [
      | inl last ↦ subst (λ (j : ℕ). f j ≡ g j) (sym last) here
      | inr other ↦ agree_at f g n i parts.1 (omega arith)
    ]

table_agrees : agree_below (λ i. get_or EIGHT_STEPS i 0) (steps 8) 256 ≡ true
unfolding agree_below steps step
table_agrees = refl

table : (i : ℕ) → i < 256 → get_or EIGHT_STEPS i 0 ≡ steps 8 i
table i below = agree_at (λ j. get_or EIGHT_STEPS j 0) (steps 8) 256 i table_agrees below

below_byte : (x : ℕ) → x % 256 < 256
below_byte x = omega arith

-- eight steps are one look into the table
pub eight_steps : (r : ℕ) → steps 8 r ≡ bit_xor (get_or EIGHT_STEPS (r % 256) 0) (r / 256)
eight_steps r =
    let parts : r ≡ bit_xor (r % 256) (2 ^ 8 * (r / 256))
    = let sum : r ≡ r % 256 + 2 ^ 8 * (r / 256) = omega arith in
    sum ∙ sym (xor_low 8 (r % 256) (r / 256) (below_byte r)) in
    ap (steps 8) parts
    ∙ steps_apart 8 (r % 256) (r / 256)
    ∙ ap (λ (x : ℕ). bit_xor x (r / 256)) (sym (table (r % 256) (below_byte r)))
