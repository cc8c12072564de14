-- The register of the checksum, byte by byte.
--
-- IsRegister bytes r   r is the reflected remainder of what `dividend` makes of the bytes
--
-- With a byte more, the remainder gets the byte's polynomial times x^24, and then eight times a factor x.
-- Reflected, that is the byte itself and eight steps to the right. A remainder is unique, so after the last
-- byte the register is the one in `crc`, and its complement the checksum.
use Rattle.std.proofs.Common.{◌≡◌, ◌<◌, ℕ, ◌+◌, ◌-◌, ◌*◌, ◌/◌, ◌%◌, ◌^◌, bit_and, bit_xor, Bool, List, [], ◌∷◌, ◌++◌, length, get_or, take, refl, sym, ap, ap₂, ◌∙◌, subst, arith}
use Rattle.std.proofs.lemmas.List.{take_more}
use lib.Bits.{xor_zero_r, xor_lt, xor_shr, xor_comm, xor_add_and, and_mask}
use Rattle.vc_base.specs.Polynomial.{IsRemainder, number, coefficients, remainder}
use Rattle.vc_base.proofs.Xor.{pow_xor}
use Rattle.vc_base.proofs.Remainders.{IsCongruent, congruent_self, congruent_sum, congruent_chain, remainder_from_congruent, same_remainder, IsRemainder-remainder, number-coefficients}
use Rattle.vc_header.specs.Crc.{crc_polynomial, dividend, reflected, crc}
use Rattle.vc_header.specs.declared.checksum.TheConstants.{EIGHT_STEPS}
use Rattle.vc_header.proofs.Reflected.{reflected_below, reflected-xor}
use Rattle.vc_header.proofs.Steps.{steps, moved, degree, moved_below, moved_congruent, congruent_pow, moved_reflected, eight_steps}
use Rattle.vc_header.proofs.Appended.{byte_term, byte_term_below, reflected_byte, dividend_push, dividend_below}

pub record IsRegister (bytes : List ℕ) (register : ℕ) : Type 0 where
  pub rest : ℕ
  pub below : rest < 2 ^ 32
  pub congruent : IsCongruent crc_polynomial (dividend bytes) rest
  pub turned : register ≡ reflected rest

ones_reflected : reflected 0xffff_ffff ≡ 0xffff_ffff
unfolding number coefficients
ones_reflected = refl

-- the register before the first byte
pub IsRegister-empty : IsRegister [] 0xffff_ffff
unfolding number
IsRegister-empty = record {
  rest = 0xffff_ffff;
  below = omega arith;
  congruent = congruent_self crc_polynomial 0xffff_ffff;
  turned = sym ones_reflected;
}

-- a byte's part of the register leaves the other bits alone
byte_apart : (r b : ℕ) → b < 256 → bit_xor r b / 256 ≡ r / 256
byte_apart r b below =
    let none : b / 256 ≡ 0 = omega arith in
    xor_shr r b 8 ∙ ap (bit_xor (r / 256)) none ∙ xor_zero_r (r / 256)

-- a byte more
pub IsRegister-push : (bytes : List ℕ) (b r : ℕ) → b < 256 → IsRegister bytes r
    → IsRegister (bytes ++ b ∷ []) (bit_xor (get_or EIGHT_STEPS (bit_xor r b % 256) 0) (r / 256))
IsRegister-push bytes b r below is =
    let start : ℕ = bit_xor is.rest (byte_term b) in
    let start_below : start < 2 ^ 32 = xor_lt 32 is.rest (byte_term b) is.below (byte_term_below b) in
    let near : IsCongruent crc_polynomial (dividend (bytes ++ b ∷ [])) (2 ^ 8 * start)
    = let moved_rest = congruent_pow 8 (dividend bytes) is.rest is.congruent in
    let sum = congruent_sum crc_polynomial (2 ^ 8 * dividend bytes) (2 ^ 8 * is.rest)
    (2 ^ 8 * byte_term b) (2 ^ 8 * byte_term b)
    moved_rest (congruent_self crc_polynomial (2 ^ 8 * byte_term b)) in
    subst (λ (x : ℕ). IsCongruent crc_polynomial x (2 ^ 8 * start)) (sym (dividend_push bytes b))
    (subst (λ (x : ℕ). IsCongruent crc_polynomial (bit_xor (2 ^ 8 * dividend bytes) (2 ^ 8 * byte_term b)) x)
    (sym (pow_xor 8 is.rest (byte_term b))) sum) in
    let reflected_start : reflected start ≡ bit_xor r b
    = reflected-xor is.rest (byte_term b) ∙ ap₂ bit_xor (sym is.turned) (reflected_byte b below) in
    record {
      rest = moved 8 start;
      below = moved_below 8 start start_below;
      congruent = congruent_chain crc_polynomial (dividend (bytes ++ b ∷ [])) (2 ^ 8 * start) (moved 8 start)
          near
          (moved_congruent 8 start);
      turned = sym (moved_reflected 8 start start_below
          ∙ ap (steps 8) reflected_start
          ∙ eight_steps (bit_xor r b)
          ∙ ap (bit_xor (get_or EIGHT_STEPS (bit_xor r b % 256) 0)) (byte_apart r b below));
    }

-- the byte at i more, as the code takes it in
pub IsRegister-more : (bytes : List ℕ) (i r b : ℕ) → i < length bytes → b ≡ get_or bytes i 0
    → get_or bytes i 0 < 256 → IsRegister (take i bytes) r
    → IsRegister (take (i + 1) bytes) (bit_xor (get_or EIGHT_STEPS (bit_and (bit_xor r b) 255) 0) (r / 256))
IsRegister-more bytes i r b within is below register =
    let longer : take i bytes ++ b ∷ [] ≡ take (i + 1) bytes
    = ap (λ (x : ℕ). take i bytes ++ x ∷ []) is ∙ sym (take_more bytes i 0 within) in
    let masked : bit_xor r b % 256 ≡ bit_and (bit_xor r b) 255 = sym (and_mask (bit_xor r b) 8) in
    let after = IsRegister-push (take i bytes) b r (omega arith) register in
    let next : ℕ → ℕ = λ x. bit_xor (get_or EIGHT_STEPS x 0) (r / 256) in
    subst (λ (xs : List ℕ). IsRegister xs (next (bit_and (bit_xor r b) 255))) longer
    (subst (λ (x : ℕ). IsRegister (take i bytes ++ b ∷ []) (next x)) masked after)

-- the complement of a number of 32 bits
complement : (r : ℕ) → r < 2 ^ 32 → bit_xor (2 ^ 32 - 1) r ≡ 2 ^ 32 - 1 - r
complement r below =
    let sum : bit_xor r (2 ^ 32 - 1) + bit_and r (2 ^ 32 - 1) * 2 ≡ r + (2 ^ 32 - 1)
    = xor_add_and r (2 ^ 32 - 1) in
    let masked : bit_and r (2 ^ 32 - 1) ≡ r % 2 ^ 32 = and_mask r 32 in
    xor_comm (2 ^ 32 - 1) r ∙ omega arith

-- after the last byte
pub crc_from_register : (bytes : List ℕ) (r : ℕ) → IsRegister bytes r → crc bytes ≡ 2 ^ 32 - 1 - r
unfolding crc
crc_from_register bytes r is =
    let cs : List Bool = coefficients (8 * length bytes + 32) (dividend bytes) in
    let division : IsRemainder 32 crc_polynomial (dividend bytes) (remainder 32 crc_polynomial cs)
    = subst (λ (x : ℕ). IsRemainder 32 crc_polynomial x (remainder 32 crc_polynomial cs))
    (number-coefficients (8 * length bytes + 32) (dividend bytes) (dividend_below bytes))
    (IsRemainder-remainder 32 crc_polynomial cs degree) in
    let same : remainder 32 crc_polynomial cs ≡ is.rest
    = same_remainder 32 crc_polynomial (dividend bytes) (remainder 32 crc_polynomial cs) is.rest degree
    division
    (remainder_from_congruent 32 crc_polynomial (dividend bytes) is.rest is.congruent is.below) in
    let small : r < 2 ^ 32 = subst (λ (x : ℕ). x < 2 ^ 32) (sym is.turned) (reflected_below is.rest) in
    ap (λ (x : ℕ). reflected (bit_xor (2 ^ 32 - 1) x)) same
    ∙ reflected-xor (2 ^ 32 - 1) is.rest
    ∙ ap₂ bit_xor ones_reflected (sym is.turned)
    ∙ complement r small
