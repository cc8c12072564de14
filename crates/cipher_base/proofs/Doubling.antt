-- Times x in GF(2^128), on two words of 64 bits: both are shifted by one bit, the low word's top bit goes over
-- into the high one, and the high word's top bit, x^128, comes back as x^7 + x^2 + x + 1. And the steps of
-- `times_power`: times 1 changes nothing, and times x takes one power to the next.
use Rattle.std.proofs.Common.{◌≡◌, ℕ, suc, Bool, false, ◌==◌, ◌∷◌, pow-suc, add-one, zero-add, mul_assoc, mul_left_comm, ◌+◌, ◌*◌, ◌/◌, ◌%◌, ◌^◌, ◌<◌, ◌≤◌, List, refl, sym, ap, ap₂, subst, ◌∙◌, inl, inr, arith}
use Rattle.std.specs.Int.Bits.{bit_xor, bit_or, xor_zero_r}
use Rattle.std.proofs.lemmas.Bool.{cases_lt, lt-ltb, le-ltb}
use Rattle.std.proofs.lemmas.Nat.{or_shifted}
use Rattle.vc_base.specs.Bytes.{IsBytes, from_bytes, to_bytes}
use Rattle.vc_base.specs.Polynomial.{IsOfDegree, coefficients, number, reduced, remainder}
use Rattle.vc_base.proofs.Remainders.{number-coefficients, reduced_below, reduced_low, remainder_below}
use Rattle.vc_base.proofs.LongRemainders.{remainder_small}
use Rattle.vc_base.proofs.Xor.{xor_parts}
use Rattle.vc_base.proofs.Bytes.{from_bytes_below, from_bytes-to_bytes, to_bytes-from_bytes, IsBytes-to_bytes}
use Rattle.cipher_base.specs.Field.{xts_polynomial, times_power}

reduced_high : (n m a : ℕ) → 2 ^ n ≤ a → reduced n m a ≡ bit_xor a m
reduced_high n m a h = rw (le-ltb a (2 ^ n) h)

-- ---- the two words

high_word : (low high : ℕ) → low < 2 ^ 64
    → bit_or (high * 2 % 2 ^ 64) (low / 2 ^ 63) ≡ high * 2 % 2 ^ 64 + low / 2 ^ 63
high_word low high below =
    let even : high * 2 % 2 ^ 64 ≡ (high % 2 ^ 63) * 2 ^ 1 = omega arith in
    subst (λ h. bit_or h (low / 2 ^ 63) ≡ h + low / 2 ^ 63) (sym even) (or_shifted (high % 2 ^ 63) 1 (low / 2 ^ 63) (omega arith))

words_below : (low high : ℕ) → low < 2 ^ 64 → high < 2 ^ 63
    → (low * 2 % 2 ^ 64) + 2 ^ 64 * (high * 2 % 2 ^ 64 + low / 2 ^ 63) ≡ 2 * (low + 2 ^ 64 * high)
words_below low high low_fits high_fits = omega arith

words_above : (low high : ℕ) → low < 2 ^ 64 → 2 ^ 63 ≤ high → high < 2 ^ 64
    → bit_xor (low * 2 % 2 ^ 64) 0x87 + 2 ^ 64 * (high * 2 % 2 ^ 64 + low / 2 ^ 63)
    ≡ bit_xor (2 * (low + 2 ^ 64 * high)) xts_polynomial
words_above low high low_fits top high_fits =
    let a = low * 2 % 2 ^ 64 in
    let r = high * 2 % 2 ^ 64 + low / 2 ^ 63 in
    let whole : 2 * (low + 2 ^ 64 * high) ≡ a + 2 ^ 64 * (r + 2 ^ 64 * 1) = omega arith in
    let polynomial : xts_polynomial ≡ 0x87 + 2 ^ 64 * (0 + 2 ^ 64 * 1) = refl in
    let upper : bit_xor (r + 2 ^ 64 * 1) (0 + 2 ^ 64 * 1) ≡ r
    = xor_parts 64 r 0 1 1 (omega arith) (omega arith) ∙ omega (arith, xor_zero_r r) in
    sym (ap₂ bit_xor whole polynomial
    ∙ xor_parts 64 a 0x87 (r + 2 ^ 64 * 1) (0 + 2 ^ 64 * 1) (omega arith) (omega arith)
    ∙ ap (λ u. bit_xor a 0x87 + 2 ^ 64 * u) upper)

pub doubled_words : (low high : ℕ) → low < 2 ^ 64 → high < 2 ^ 64
    → bit_xor (low * 2 % 2 ^ 64) (high / 2 ^ 63 * 0x87 % 2 ^ 64) + 2 ^ 64 * bit_or (high * 2 % 2 ^ 64) (low / 2 ^ 63)
    ≡ reduced 128 xts_polynomial (2 * (low + 2 ^ 64 * high))
doubled_words low high low_fits high_fits =
    ap (λ h. bit_xor (low * 2 % 2 ^ 64) (high / 2 ^ 63 * 0x87 % 2 ^ 64) + 2 ^ 64 * h) (high_word low high low_fits)
    ∙ elim (cases_lt high (2 ^ 63)) [
      | inl h ↦
          let none : high / 2 ^ 63 * 0x87 % 2 ^ 64 ≡ 0 = omega arith in
          ap (λ t. bit_xor (low * 2 % 2 ^ 64) t + 2 ^ 64 * (high * 2 % 2 ^ 64 + low / 2 ^ 63)) none
          ∙ ap (λ l. l + 2 ^ 64 * (high * 2 % 2 ^ 64 + low / 2 ^ 63)) (xor_zero_r (low * 2 % 2 ^ 64))
          ∙ words_below low high low_fits h
          ∙ sym (reduced_low 128 xts_polynomial (2 * (low + 2 ^ 64 * high)) (omega arith))
      | inr h ↦
          let one : high / 2 ^ 63 * 0x87 % 2 ^ 64 ≡ 0x87 = omega arith in
          ap (λ t. bit_xor (low * 2 % 2 ^ 64) t + 2 ^ 64 * (high * 2 % 2 ^ 64 + low / 2 ^ 63)) one
          ∙ words_above low high low_fits h high_fits
          ∙ sym (reduced_high 128 xts_polynomial (2 * (low + 2 ^ 64 * high)) (omega arith))
    ]

-- ---- powers of x

xts_degree : IsOfDegree 128 xts_polynomial
xts_degree = record { leads = omega arith; below = omega arith }

small : (t : List ℕ) → IsBytes 16 t → from_bytes t < 2 ^ 128
small t bytes = from_bytes_below 16 t bytes

-- a polynomial below x^128 with each term j degrees higher, modulo the field's polynomial
abbrev raised : ℕ → ℕ → ℕ
raised j a = remainder 128 xts_polynomial (coefficients (j + 128) (2 ^ j * a))

even : (p : ℕ) → (2 * p % 2 == 1) ≡ false
even p = let rest : 2 * p % 2 ≡ 0 = omega arith in ap (λ (x : ℕ). x == 1) rest

-- one coefficient 0 more, which is that of the constant term
cons_even : (k p : ℕ) → coefficients (k + 1) (2 * p) ≡ false ∷ coefficients k p
unfolding coefficients
cons_even k p =
    let half : 2 * p / 2 ≡ p = omega arith in
    ap (λ (n : ℕ). coefficients n (2 * p)) (add-one k)
    ∙ ap₂ (λ (c : Bool) (x : ℕ). c ∷ coefficients k x) (even p) half

raised_more : (j a : ℕ) → raised (suc j) a ≡ reduced 128 xts_polynomial (2 * raised j a)
unfolding remainder
raised_more j a =
    let p = 2 ^ j * a in
    let power : 2 ^ suc j ≡ 2 ^ j * 2 = pow-suc 2 j in
    let doubled : 2 ^ suc j * a ≡ 2 * p
    = ap (λ (x : ℕ). x * a) power ∙ mul_assoc (2 ^ j) 2 a ∙ mul_left_comm (2 ^ j) 2 a in
    let longer : suc j + 128 ≡ j + 128 + 1 = omega arith in
    ap₂ (λ (n x : ℕ). remainder 128 xts_polynomial (coefficients n x)) longer doubled
    ∙ ap (remainder 128 xts_polynomial) (cons_even (j + 128) p)
    ∙ ap (reduced 128 xts_polynomial) (zero-add (2 * raised j a))

raised_none : (a : ℕ) → a < 2 ^ 128 → raised 0 a ≡ a
raised_none a below =
    let itself : 2 ^ 0 * a ≡ a = omega arith in
    let spelt : number (coefficients 128 a) ≡ a = number-coefficients 128 a below in
    ap (λ (x : ℕ). remainder 128 xts_polynomial (coefficients 128 x)) itself
    ∙ remainder_small 128 xts_polynomial (coefficients 128 a) xts_degree (subst (λ x. x < 2 ^ 128) (sym spelt) below)
    ∙ spelt

raised_below : (j a : ℕ) → raised j a < 2 ^ 128
raised_below j a = remainder_below 128 xts_polynomial (coefficients (j + 128) (2 ^ j * a)) xts_degree

pub IsBytes-times_power : (j : ℕ) (t : List ℕ) → IsBytes 16 (times_power j t)
IsBytes-times_power j t = IsBytes-to_bytes 16 (raised j (from_bytes t))

pub times_power_none : (t : List ℕ) → IsBytes 16 t → times_power 0 t ≡ t
times_power_none t bytes =
    ap (to_bytes 16) (raised_none (from_bytes t) (small t bytes)) ∙ to_bytes-from_bytes 16 t bytes

pub times_power_one : (t : List ℕ) → IsBytes 16 t
    → times_power 1 t ≡ to_bytes 16 (reduced 128 xts_polynomial (2 * from_bytes t))
times_power_one t bytes =
    ap (to_bytes 16)
    (raised_more 0 (from_bytes t)
    ∙ ap (λ y. reduced 128 xts_polynomial (2 * y)) (raised_none (from_bytes t) (small t bytes)))

pub times_power_more : (j : ℕ) (t : List ℕ) → times_power 1 (times_power j t) ≡ times_power (suc j) t
times_power_more j t =
    let y = raised j (from_bytes t) in
    times_power_one (to_bytes 16 y) (IsBytes-to_bytes 16 y)
    ∙ ap (to_bytes 16)
    (ap (λ z. reduced 128 xts_polynomial (2 * z)) (from_bytes-to_bytes 16 y (raised_below j (from_bytes t)))
    ∙ sym (raised_more j (from_bytes t)))

-- the same on a number that spells the bytes
pub times_power_next : (j x y : ℕ) (t : List ℕ) → to_bytes 16 x ≡ times_power j t → x < 2 ^ 128
    → y ≡ reduced 128 xts_polynomial (2 * x) → to_bytes 16 y ≡ times_power (j + 1) t
times_power_next j x y t is_power fits doubled =
    let spelt : from_bytes (times_power j t) ≡ x = ap from_bytes (sym is_power) ∙ from_bytes-to_bytes 16 x fits in
    ap (to_bytes 16) (doubled ∙ ap (λ z. reduced 128 xts_polynomial (2 * z)) (sym spelt))
    ∙ sym (times_power_one (times_power j t) (IsBytes-times_power j t))
    ∙ times_power_more j t
    ∙ ap (λ (i : ℕ). times_power i t) (sym (add-one j))

pub times_power_first : (x : ℕ) (t : List ℕ) → IsBytes 16 t → x ≡ from_bytes t → to_bytes 16 x ≡ times_power 0 t
times_power_first x t bytes spells = ap (to_bytes 16) spells ∙ to_bytes-from_bytes 16 t bytes ∙ sym (times_power_none t bytes)

pub first_below : (x : ℕ) (t : List ℕ) → IsBytes 16 t → x ≡ from_bytes t → x < 2 ^ 128
first_below x t bytes spells = subst (λ y. y < 2 ^ 128) (sym spells) (small t bytes)

pub next_below : (x y : ℕ) → x < 2 ^ 128 → y ≡ reduced 128 xts_polynomial (2 * x) → y < 2 ^ 128
next_below x y fits doubled =
    let twice : 2 * x < 2 ^ 129 = omega arith in
    subst (λ z. z < 2 ^ 128) (sym doubled) (reduced_below 128 xts_polynomial (2 * x) xts_degree twice)
