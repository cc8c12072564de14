-- The two fields of the ciphers.
use Rattle.std.specs.Prelude.{◌≡◌, ℕ, ◌+◌, ◌*◌, ◌^◌, ◌⊎◌, List}
use Rattle.vc_base.specs.Bytes.{from_bytes, to_bytes}
use Rattle.vc_base.specs.Polynomial.{coefficients, remainder}

-- x^8 + x^4 + x^3 + x + 1, the field of AES (FIPS 197, section 4.2), and the two fields of Twofish
-- (its submission, sections 4.2 and 4.3)
abbrev pub IsFieldPolynomial : ℕ → Type 0
IsFieldPolynomial m = (m ≡ 0x11b) ⊎ (m ≡ 0x169) ⊎ (m ≡ 0x14d)

-- x^128 + x^7 + x^2 + x + 1 (IEEE 1619, section 5.2)
abbrev pub xts_polynomial : ℕ
xts_polynomial = 2 ^ 128 + 0x87

-- Sixteen bytes are a polynomial: bit i of byte b is the coefficient of x^(8b + i). times_power j t is these bytes
-- times x^j: the polynomial with each term j degrees higher, and of that the remainder.
abbrev pub times_power : ℕ → List ℕ → List ℕ
times_power j t = to_bytes 16 (remainder 128 xts_polynomial (coefficients (j + 128) (2 ^ j * from_bytes t)))
