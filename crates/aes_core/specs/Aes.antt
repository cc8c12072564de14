-- AES-256 (FIPS 197) as functions on lists of bytes, in the standard's terms and order. Section numbers
-- are the standard's.
--
-- A block and a state are 16 bytes, and byte r + 4c of a state stands in row r and column c (3.4).
--
-- mul a b                       the product of two bytes in GF(2^8)
-- sub_byte b                    the S-box
-- sub_bytes, shift_rows, mix_columns, add_round_key    the four steps of a round, and their inverses
-- schedule key n                the first 8 + n words of the key schedule
-- enciphered key b              what the block b becomes under a key of 32 bytes
-- deciphered key b              the block that it came from
use Rattle.std.specs.Prelude.{ℕ, zero, suc, ◌+◌, ◌-◌, ◌*◌, ◌/◌, ◌%◌, ◌^◌, ◌==◌, if◌then◌else◌, List, [], ◌∷◌, ◌++◌, map, take, drop, slice_index, bit_xor}
use Rattle.vc_base.specs.Bits.{of_bits, number_below}
use Rattle.vc_base.specs.Bytes.{xor_bytes, piece}
use Rattle.vc_base.specs.Polynomial.{product}

-- the product of GF(2^8), modulo x^8 + x^4 + x^3 + x + 1 (4.2)
abbrev pub mul : ℕ → ℕ → ℕ
mul a b = product 8 0x11b a b

-- ---- the S-box (5.1.1, 5.3.2)

-- the multiplicative inverse, and 0 of 0
abbrev pub inverse : ℕ → ℕ
inverse b = number_below 256 (λ c. mul b c == 1)

-- bit i of b, the places taken modulo 8
abbrev pub bit : ℕ → ℕ → ℕ
bit b i = b / 2 ^ (i % 8) % 2

-- Bit i of what the affine transformation makes of b: the XOR of five bits of b and one of the
-- constant. Of bits it is the sum modulo 2.
abbrev pub affine_bit : ℕ → ℕ → ℕ
affine_bit b i = (bit b i + bit b (i + 4) + bit b (i + 5) + bit b (i + 6) + bit b (i + 7) + bit 0x63 i) % 2

-- the S-box
unfoldable pub sub_byte : ℕ → ℕ
sub_byte b = of_bits (affine_bit (inverse b)) 8

-- the inverse S-box: the byte whose S-box entry b is
unfoldable pub inverse_sub_byte : ℕ → ℕ
inverse_sub_byte b = number_below 256 (λ c. sub_byte c == b)

-- ---- the steps of a round (5.1, 5.3)

-- the byte in row r and column c
abbrev pub at : List ℕ → ℕ → ℕ → ℕ
at s r c = slice_index s (r + 4 * c)

-- the state that has f r c in row r and column c
abbrev pub state : (ℕ → ℕ → ℕ) → List ℕ
state f =
    f 0 0 ∷ f 1 0 ∷ f 2 0 ∷ f 3 0
    ∷ f 0 1 ∷ f 1 1 ∷ f 2 1 ∷ f 3 1
    ∷ f 0 2 ∷ f 1 2 ∷ f 2 2 ∷ f 3 2
    ∷ f 0 3 ∷ f 1 3 ∷ f 2 3 ∷ f 3 3 ∷ []

-- SubBytes (5.1.1) and its inverse (5.3.2)
unfoldable pub sub_bytes : List ℕ → List ℕ
sub_bytes s = state (λ r c. sub_byte (at s r c))

unfoldable pub inverse_sub_bytes : List ℕ → List ℕ
inverse_sub_bytes s = state (λ r c. inverse_sub_byte (at s r c))

-- ShiftRows (5.1.2): row r turns left by r places
unfoldable pub shift_rows : List ℕ → List ℕ
shift_rows s = state (λ r c. at s r ((c + r) % 4))

-- its inverse (5.3.1): row r turns right by r places
unfoldable pub inverse_shift_rows : List ℕ → List ℕ
inverse_shift_rows s = state (λ r c. at s r ((c + 4 - r) % 4))

-- column c
abbrev pub column : List ℕ → ℕ → List ℕ
column s c = at s 0 c ∷ at s 1 c ∷ at s 2 c ∷ at s 3 c ∷ []

-- Row r, times the column x, of the matrix whose first row is given. Each further row is the one above it
-- turned right by one place.
abbrev pub row_times : List ℕ → ℕ → List ℕ → ℕ
row_times first r x =
    let term : ℕ → ℕ = λ k. mul (slice_index first ((k + 4 - r) % 4)) (slice_index x k) in
    bit_xor (bit_xor (term 0) (term 1)) (bit_xor (term 2) (term 3))

abbrev pub column_times : List ℕ → List ℕ → List ℕ
column_times first x = row_times first 0 x ∷ row_times first 1 x ∷ row_times first 2 x ∷ row_times first 3 x ∷ []

-- each column times that matrix
abbrev pub columns_times : List ℕ → List ℕ → List ℕ
columns_times first s =
    column_times first (column s 0) ++ column_times first (column s 1)
    ++ column_times first (column s 2) ++ column_times first (column s 3)

-- the first rows of the two matrices
abbrev pub mix_row : List ℕ
mix_row = 2 ∷ 3 ∷ 1 ∷ 1 ∷ []

abbrev pub inverse_mix_row : List ℕ
inverse_mix_row = 0x0e ∷ 0x0b ∷ 0x0d ∷ 0x09 ∷ []

-- MixColumns (5.1.3) and its inverse (5.3.3)
unfoldable pub mix_columns : List ℕ → List ℕ
mix_columns s = columns_times mix_row s

unfoldable pub inverse_mix_columns : List ℕ → List ℕ
inverse_mix_columns s = columns_times inverse_mix_row s

-- AddRoundKey (5.1.4), its own inverse: round key r is words 4r to 4r + 3 of the schedule w
unfoldable pub add_round_key : List ℕ → ℕ → List ℕ → List ℕ
add_round_key w r s = xor_bytes s (piece 16 r w)

-- ---- the key schedule (5.2): words of 4 bytes, one after the other

-- RotWord and SubWord
abbrev pub rot_word : List ℕ → List ℕ
rot_word t = drop 1 t ++ take 1 t

abbrev pub sub_word : List ℕ → List ℕ
sub_word t = map sub_byte t

-- x^i
unfoldable pub power : ℕ → ℕ
power zero = 1
power (suc i) = mul 2 (power i)

-- Rcon[i], for i from 1
abbrev pub round_constant : ℕ → List ℕ
round_constant i = power (i - 1) ∷ 0 ∷ 0 ∷ 0 ∷ []

-- what word i - 1 adds to word i
unfoldable pub turned : ℕ → List ℕ → List ℕ
turned i t =
    if i % 8 == 0 then xor_bytes (sub_word (rot_word t)) (round_constant (i / 8))
    else (if i % 8 == 4 then sub_word t else t)

-- word i, from the words w before it
unfoldable pub next_word : ℕ → List ℕ → List ℕ
next_word i w = xor_bytes (piece 4 (i - 8) w) (turned i (piece 4 (i - 1) w))

-- the words w before word i, and word i
abbrev pub with_word : ℕ → List ℕ → List ℕ
with_word i w = w ++ next_word i w

-- the first 8 + n words
unfoldable pub schedule : List ℕ → ℕ → List ℕ
schedule key zero = key
schedule key (suc n) = with_word (8 + n) (schedule key n)

-- ---- the cipher (5.1) and the inverse cipher (5.3) under the schedule w, with 14 rounds

-- the block s after its first round key and n rounds
unfoldable pub rounds : List ℕ → List ℕ → ℕ → List ℕ
rounds w s zero = add_round_key w 0 s
rounds w s (suc n) = add_round_key w (suc n) (mix_columns (shift_rows (sub_bytes (rounds w s n))))

-- the last round leaves MixColumns out
unfoldable pub cipher : List ℕ → List ℕ → List ℕ
cipher w b = add_round_key w 14 (shift_rows (sub_bytes (rounds w b 13)))

-- the block s after its first round key and n rounds of the inverse cipher
unfoldable pub inverse_rounds : List ℕ → List ℕ → ℕ → List ℕ
inverse_rounds w s zero = add_round_key w 14 s
inverse_rounds w s (suc n) =
    inverse_mix_columns (add_round_key w (13 - n) (inverse_sub_bytes (inverse_shift_rows (inverse_rounds w s n))))

unfoldable pub inverse_cipher : List ℕ → List ℕ → List ℕ
inverse_cipher w b = add_round_key w 0 (inverse_sub_bytes (inverse_shift_rows (inverse_rounds w b 13)))

-- ---- AES-256: a key of 8 words makes 60

abbrev pub enciphered : List ℕ → List ℕ → List ℕ
enciphered key b = cipher (schedule key 52) b

abbrev pub deciphered : List ℕ → List ℕ → List ℕ
deciphered key b = inverse_cipher (schedule key 52) b
