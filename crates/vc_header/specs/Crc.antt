-- CRC-32 (ITU-T V.42, section 8.1.1.6.2; RFC 1952, section 8), as a remainder of polynomials over GF(2).
use Rattle.std.specs.Prelude.{ℕ, ◌+◌, ◌-◌, ◌*◌, ◌^◌, List, length, reverse, bit_xor}
use Rattle.std.specs.List.{flat_map}
use Rattle.vc_base.specs.Polynomial.{number, coefficients, remainder}

-- x^32 + x^26 + x^23 + x^22 + x^16 + x^12 + x^11 + x^10 + x^8 + x^7 + x^5 + x^4 + x^2 + x + 1; without
-- x^32, and with the constant term as the highest of 32 bits, it is edb88320
abbrev pub crc_polynomial : ℕ
crc_polynomial = 0x104c11db7

-- the bytes as a polynomial: the first byte has the highest terms, and in each byte the lowest bit
abbrev pub message : List ℕ → ℕ
message bytes = number (reverse (flat_map (coefficients 8) bytes))

-- M·x^32 + (x^31 + .. + 1)·x^(8n), for the polynomial M of n bytes
abbrev pub dividend : List ℕ → ℕ
dividend bytes = bit_xor (2 ^ 32 * message bytes) ((2 ^ 32 - 1) * 2 ^ (8 * length bytes))

-- a polynomial with 32 terms as a number whose highest bit is the constant term
abbrev pub reflected : ℕ → ℕ
reflected p = number (reverse (coefficients 32 p))

-- the remainder, complemented and reflected
unfoldable pub crc : List ℕ → ℕ
crc bytes = reflected (bit_xor (2 ^ 32 - 1)
    (remainder 32 crc_polynomial (coefficients (8 * length bytes + 32) (dividend bytes))))
