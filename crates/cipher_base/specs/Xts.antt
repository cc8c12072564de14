-- XTS (IEEE 1619, section 5.3) over a block cipher that is given by its two directions on lists of 16
-- bytes: main and tweak_of are enciphering under the main and under the tweak key.
use Rattle.std.specs.Prelude.{ℕ, List}
use Rattle.vc_base.specs.Bytes.{xor_bytes, to_bytes, in_pieces}
use Rattle.cipher_base.specs.Field.{times_power}

-- T_j of data unit n: T_0 is n as 16 bytes, the lowest first, enciphered with the tweak key, and
-- T_j is T_0 times x^j
abbrev pub tweak : (List ℕ → List ℕ) → ℕ → ℕ → List ℕ
tweak tweak_of n j = times_power j (tweak_of (to_bytes 16 n))

-- E(P ^ T) ^ T
abbrev pub whitened : (List ℕ → List ℕ) → List ℕ → List ℕ → List ℕ
whitened main t p = xor_bytes (main (xor_bytes p t)) t

-- A stretch of whole blocks under data unit n: block j is whitened with T_j. For deciphering, main is the cipher's
-- deciphering; tweak_of is its enciphering in both directions.
abbrev pub xts : (List ℕ → List ℕ) → (List ℕ → List ℕ) → ℕ → List ℕ → List ℕ
xts main tweak_of n stretch = in_pieces 16 (λ j p. whitened main (tweak tweak_of n j) p) stretch
