-- Products and inverses of the field of AES.
--
-- A product is a byte, and linear in its second factor. The inverse of a byte b is b^254, since their
-- product is 1 at each byte but 0, by computing, and in a ring no second byte can have that product.
use Rattle.std.proofs.Common.{◌≡◌, ◌<◌, ◌%◌, ℕ, zero, suc, true, eqb, bit_xor, refl, sym, ap, ◌∙◌, arith, lit<, lit≤}
use Rattle.std.proofs.lemmas.Bool.{eqb-true, eq-eqb, ne_eqb}
use Rattle.vc_base.specs.Polynomial.{IsOfDegree}
use Rattle.vc_base.proofs.Bits.{number_below-only, number_below-none}
use Rattle.vc_base.proofs.EachNumber.{agree_below, agree_at}
use Rattle.vc_base.proofs.Remainders.{product_below}
use Rattle.vc_base.proofs.Products.{horner, product-horner, product_xor_second, product_zero_first, product_one, product_comm, product_assoc}
use Rattle.aes_core.specs.Aes.{mul, inverse}

pub degree : IsOfDegree 8 0x11b
degree = record { leads = lit≤ tt; below = lit< tt }

pub mul_below : (a b : ℕ) → mul a b < 256
mul_below a b = product_below 8 0x11b a b degree

pub mul_xor : (a b c : ℕ) → a < 256 → mul a (bit_xor b c) ≡ bit_xor (mul a b) (mul a c)
mul_xor a b c below = product_xor_second 8 0x11b a b c degree below

-- a twin that computes fast
abbrev pub quick : ℕ → ℕ → ℕ
quick a b = horner 256 0x11b a 8 b

pub mul_quick : (a b : ℕ) → a < 256 → mul a b ≡ quick a b
mul_quick a b below = product-horner 8 0x11b a b degree below

-- ---- the inverse

unfoldable pub square : ℕ → ℕ
square a = quick a a

-- b^240 · b^14, from b^2, b^3 and b^12
unfoldable pub from_12 : ℕ → ℕ → ℕ → ℕ
from_12 b2 b3 b12 = quick (square (square (square (square (quick b12 b3))))) (quick b12 b2)

unfoldable pub from_3 : ℕ → ℕ → ℕ
from_3 b2 b3 = from_12 b2 b3 (square (square b3))

-- b^254
unfoldable pub power_254 : ℕ → ℕ
power_254 b = from_3 (square b) (quick (square b) b)

computed_bytes : agree_below (λ b. power_254 b % 256) power_254 256 ≡ true
unfolding agree_below power_254 from_3 from_12 square horner
computed_bytes = refl

computed_ones : agree_below (λ b. quick (suc b) (power_254 (suc b))) (λ b. 1) 255 ≡ true
unfolding agree_below power_254 from_3 from_12 square horner
computed_ones = refl

computed_zero : power_254 0 ≡ 0
unfolding power_254 from_3 from_12 square horner
computed_zero = refl

power_below : (b : ℕ) → b < 256 → power_254 b < 256
power_below b below = let e = agree_at (λ b. power_254 b % 256) power_254 256 computed_bytes b below in omega (arith, e)

times_power : (b : ℕ) → suc b < 256 → mul (suc b) (power_254 (suc b)) ≡ 1
times_power b below =
    mul_quick (suc b) (power_254 (suc b)) below
    ∙ agree_at (λ b. quick (suc b) (power_254 (suc b))) (λ b. 1) 255 computed_ones b (omega arith)

-- c = c·(b·x) = (b·c)·x = x
one_inverse : (b c x : ℕ) → b < 256 → c < 256 → x < 256 → mul b x ≡ 1 → mul b c ≡ 1 → c ≡ x
one_inverse b c x b_below c_below x_below at_x at_c =
    sym (product_one 8 0x11b c (lit< tt) degree c_below)
    ∙ ap (mul c) (sym at_x)
    ∙ sym (product_assoc 8 0x11b c b x degree c_below b_below)
    ∙ ap (λ (y : ℕ). mul y x) (product_comm 8 0x11b c b c_below b_below ∙ at_c)
    ∙ product_comm 8 0x11b 1 x (lit< tt) x_below
    ∙ product_one 8 0x11b x (lit< tt) degree x_below

pub inverse_is_power : (b : ℕ) → b < 256 → inverse b ≡ power_254 b
inverse_is_power zero below =
    number_below-none 256 (λ c. eqb (mul 0 c) 1)
    (λ c. ne_eqb (mul 0 c) 1 (λ e. let none = product_zero_first 8 0x11b c degree in absurd (omega (arith, none, e))))
    ∙ sym computed_zero
inverse_is_power (suc b) below =
    number_below-only 256 (λ c. eqb (mul (suc b) c) 1) (power_254 (suc b)) (power_below (suc b) below)
    (eq-eqb (mul (suc b) (power_254 (suc b))) 1 (times_power b below))
    (λ c lower e. one_inverse (suc b) c (power_254 (suc b)) below lower (power_below (suc b) below)
    (times_power b below) (eqb-true (mul (suc b) c) 1 e))
