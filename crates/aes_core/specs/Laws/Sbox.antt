-- The S-box and its inverse undo each other on bytes.
--
-- Both compute fast: the inverse in the field as a power, and the inverse S-box as the inverse of the affine
-- transformation before that power. The inverse S-box is a search, so it is enough that the two undo each
-- other: then each byte has one place in the S-box.
use Rattle.std.proofs.Common.{◌≡◌, ◌<◌, ◌+◌, ◌%◌, ℕ, true, eqb, refl, sym, ap, ◌∙◌, subst, arith}
use Rattle.std.proofs.lemmas.Bool.{eqb-true, eq-eqb}
use Rattle.vc_base.specs.Bits.{of_bits}
use Rattle.vc_base.proofs.Bits.{number_below-only}
use Rattle.vc_base.proofs.EachNumber.{agree_below, agree_at}
use Rattle.vc_base.proofs.Products.{horner}
use Rattle.aes_core.specs.Aes.{bit, affine_bit, sub_byte, inverse_sub_byte}
use Rattle.aes_core.specs.Laws.Field.{power_254, from_3, from_12, square, inverse_is_power}

unfoldable pub affine : ℕ → ℕ
affine b = of_bits (affine_bit b) 8

-- bit i of what the affine transformation makes b of
unfoldable pub inverse_affine_bit : ℕ → ℕ → ℕ
inverse_affine_bit b i = (bit b (i + 2) + bit b (i + 5) + bit b (i + 7) + bit 0x05 i) % 2

unfoldable pub inverse_affine : ℕ → ℕ
inverse_affine b = of_bits (inverse_affine_bit b) 8

unfoldable pub forth : ℕ → ℕ
forth b = affine (power_254 b)

unfoldable pub back : ℕ → ℕ
back b = power_254 (inverse_affine b)

pub sub_is_forth : (b : ℕ) → b < 256 → sub_byte b ≡ forth b
unfolding sub_byte forth affine
sub_is_forth b below = ap (λ (x : ℕ). of_bits (affine_bit x) 8) (inverse_is_power b below)

computed_bytes : agree_below (λ b. forth b % 256) forth 256 ≡ true
unfolding agree_below forth affine of_bits power_254 from_3 from_12 square horner
computed_bytes = refl

computed_back_bytes : agree_below (λ b. back b % 256) back 256 ≡ true
unfolding agree_below back inverse_affine inverse_affine_bit of_bits power_254 from_3 from_12 square horner
computed_back_bytes = refl

computed_back_forth : agree_below (λ b. back (forth b)) (λ b. b) 256 ≡ true
unfolding agree_below forth affine back inverse_affine inverse_affine_bit of_bits power_254 from_3 from_12 square horner
computed_back_forth = refl

computed_forth_back : agree_below (λ b. forth (back b)) (λ b. b) 256 ≡ true
unfolding agree_below forth affine back inverse_affine inverse_affine_bit of_bits power_254 from_3 from_12 square horner
computed_forth_back = refl

back_below : (b : ℕ) → b < 256 → back b < 256
back_below b below = let e = agree_at (λ b. back b % 256) back 256 computed_back_bytes b below in omega (arith, e)

forth_below : (b : ℕ) → b < 256 → forth b < 256
forth_below b below = let e = agree_at (λ b. forth b % 256) forth 256 computed_bytes b below in omega (arith, e)

sub_of_back : (b : ℕ) → b < 256 → sub_byte (back b) ≡ b
sub_of_back b below =
    sub_is_forth (back b) (back_below b below) ∙ agree_at (λ b. forth (back b)) (λ b. b) 256 computed_forth_back b below

back_of_sub : (b c : ℕ) → c < 256 → sub_byte c ≡ b → c ≡ back b
back_of_sub b c below e =
    sym (agree_at (λ b. back (forth b)) (λ b. b) 256 computed_back_forth c below) ∙ ap back (sym (sub_is_forth c below) ∙ e)

pub inverse_sub_is_back : (b : ℕ) → b < 256 → inverse_sub_byte b ≡ back b
unfolding inverse_sub_byte
inverse_sub_is_back b below =
    number_below-only 256 (λ c. eqb (sub_byte c) b) (back b) (back_below b below)
    (eq-eqb (sub_byte (back b)) b (sub_of_back b below))
    (λ c lower e. back_of_sub b c lower (eqb-true (sub_byte c) b e))

-- ---- what the laws of the cipher need

pub sub_byte-below : (b : ℕ) → b < 256 → sub_byte b < 256
sub_byte-below b below = subst (λ (x : ℕ). x < 256) (sym (sub_is_forth b below)) (forth_below b below)

pub inverse_sub_byte-below : (b : ℕ) → b < 256 → inverse_sub_byte b < 256
inverse_sub_byte-below b below = subst (λ (x : ℕ). x < 256) (sym (inverse_sub_is_back b below)) (back_below b below)

pub sub_undone : (b : ℕ) → b < 256 → inverse_sub_byte (sub_byte b) ≡ b
sub_undone b below =
    inverse_sub_is_back (sub_byte b) (sub_byte-below b below) ∙ sym (back_of_sub (sub_byte b) b below refl)

pub sub_done : (b : ℕ) → b < 256 → sub_byte (inverse_sub_byte b) ≡ b
sub_done b below = ap sub_byte (inverse_sub_is_back b below) ∙ sub_of_back b below
