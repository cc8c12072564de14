-- Twofish with keys of 256 bits (B. Schneier and others, "Twofish: A 128-Bit Block Cipher", 1998),
-- in the submission's terms and with its section numbers.
--
-- A word is a number below 2^32, and its lowest byte is its first (4). A block has 16 bytes.
--
-- q0 x, q1 x          the two fixed permutations of a byte
-- h x l               the function h of a word x under a list l of four words
-- key_words key       S_0 to S_3, on which g rests
-- g_under s x         the function g under those words s, of a word x
-- round_keys key      the 40 words K_0 to K_39
-- feistel g k r s     round r on the four words s, under a function g and the words k
-- cipher g k b        what the block b becomes under them
-- enciphered key b    what the block b becomes under a key of 32 bytes
-- deciphered key b    the block that it came from
use Rattle.std.specs.Prelude.{ℕ, zero, suc, ◌+◌, ◌-◌, ◌*◌, ◌/◌, ◌%◌, ◌^◌, List, [], ◌∷◌, map, slice_index, bit_xor}
use Rattle.std.specs.Int.{w32, rotate_left, rotate_right}
use Rattle.vc_base.specs.Words.{word_of, words_of, block_of}
use Rattle.vc_base.specs.Bytes.{xor_bytes, from_bytes, to_bytes, piece, joined}
use Rattle.vc_base.specs.Polynomial.{product}

-- ---- the permutations q0 and q1 (4.3.5): a byte is two nibbles

-- a nibble rotated right by one bit
abbrev pub rotated_right : ℕ → ℕ
rotated_right b = b / 2 + 8 * (b % 2)

-- two nibbles are mixed, and each becomes an entry of a table
abbrev pub high_mixed : ℕ → ℕ → ℕ
high_mixed a b = bit_xor a b

abbrev pub low_mixed : ℕ → ℕ → ℕ
low_mixed a b = bit_xor (bit_xor a (rotated_right b)) (8 * a % 16)

-- twice, by the tables t0 and t1 and then by t2 and t3; at last the nibbles change places
unfoldable pub permuted : List ℕ → List ℕ → List ℕ → List ℕ → ℕ → ℕ
permuted t0 t1 t2 t3 x =
    let a : ℕ = slice_index t0 (high_mixed (x / 16) (x % 16)) in
    let b : ℕ = slice_index t1 (low_mixed (x / 16) (x % 16)) in
    16 * slice_index t3 (low_mixed a b) + slice_index t2 (high_mixed a b)

unfoldable pub q0 : ℕ → ℕ
q0 x =
    permuted
    (0x8 ∷ 0x1 ∷ 0x7 ∷ 0xd ∷ 0x6 ∷ 0xf ∷ 0x3 ∷ 0x2
    ∷ 0x0 ∷ 0xb ∷ 0x5 ∷ 0x9 ∷ 0xe ∷ 0xc ∷ 0xa ∷ 0x4 ∷ [])
    (0xe ∷ 0xc ∷ 0xb ∷ 0x8 ∷ 0x1 ∷ 0x2 ∷ 0x3 ∷ 0x5
    ∷ 0xf ∷ 0x4 ∷ 0xa ∷ 0x6 ∷ 0x7 ∷ 0x0 ∷ 0x9 ∷ 0xd ∷ [])
    (0xb ∷ 0xa ∷ 0x5 ∷ 0xe ∷ 0x6 ∷ 0xd ∷ 0x9 ∷ 0x0
    ∷ 0xc ∷ 0x8 ∷ 0xf ∷ 0x3 ∷ 0x2 ∷ 0x4 ∷ 0x7 ∷ 0x1 ∷ [])
    (0xd ∷ 0x7 ∷ 0xf ∷ 0x4 ∷ 0x1 ∷ 0x2 ∷ 0x6 ∷ 0xe
    ∷ 0x9 ∷ 0xb ∷ 0x3 ∷ 0x0 ∷ 0x8 ∷ 0x5 ∷ 0xc ∷ 0xa ∷ [])
    x

unfoldable pub q1 : ℕ → ℕ
q1 x =
    permuted
    (0x2 ∷ 0x8 ∷ 0xb ∷ 0xd ∷ 0xf ∷ 0x7 ∷ 0x6 ∷ 0xe
    ∷ 0x3 ∷ 0x1 ∷ 0x9 ∷ 0x4 ∷ 0x0 ∷ 0xa ∷ 0xc ∷ 0x5 ∷ [])
    (0x1 ∷ 0xe ∷ 0x2 ∷ 0xb ∷ 0x4 ∷ 0xc ∷ 0x3 ∷ 0x7
    ∷ 0x6 ∷ 0xd ∷ 0xa ∷ 0x5 ∷ 0xf ∷ 0x9 ∷ 0x0 ∷ 0x8 ∷ [])
    (0x4 ∷ 0xc ∷ 0x7 ∷ 0x5 ∷ 0x1 ∷ 0x6 ∷ 0x9 ∷ 0xa
    ∷ 0x0 ∷ 0xe ∷ 0xd ∷ 0x8 ∷ 0x2 ∷ 0xb ∷ 0x3 ∷ 0xf ∷ [])
    (0xb ∷ 0x9 ∷ 0x5 ∷ 0x1 ∷ 0xc ∷ 0x3 ∷ 0xd ∷ 0xe
    ∷ 0x6 ∷ 0x4 ∷ 0x7 ∷ 0xf ∷ 0x2 ∷ 0x0 ∷ 0x8 ∷ 0xa ∷ [])
    x

-- ---- matrices over a field of 2^8 elements with the polynomial m

-- a row times a column
unfoldable pub row_times : ℕ → List ℕ → List ℕ → ℕ
row_times m [] x = 0
row_times m (a ∷ row) [] = 0
row_times m (a ∷ row) (b ∷ x) = bit_xor (product 8 m a b) (row_times m row x)

-- a matrix, the list of its rows, times a column
abbrev pub column_times : ℕ → List (List ℕ) → List ℕ → List ℕ
column_times m rows x = map (λ row. row_times m row x) rows

-- the matrix MDS, modulo x^8 + x^6 + x^5 + x^3 + 1 (4.2)
abbrev pub mds : List (List ℕ)
mds =
    (0x01 ∷ 0xef ∷ 0x5b ∷ 0x5b ∷ [])
    ∷ (0x5b ∷ 0xef ∷ 0xef ∷ 0x01 ∷ [])
    ∷ (0xef ∷ 0x5b ∷ 0x01 ∷ 0xef ∷ [])
    ∷ (0xef ∷ 0x01 ∷ 0xef ∷ 0x5b ∷ [])
    ∷ []

abbrev pub mds_times : List ℕ → List ℕ
mds_times x = column_times 0x169 mds x

-- the matrix RS, modulo x^8 + x^6 + x^3 + x^2 + 1 (4.3)
abbrev pub rs : List (List ℕ)
rs =
    (0x01 ∷ 0xa4 ∷ 0x55 ∷ 0x87 ∷ 0x5a ∷ 0x58 ∷ 0xdb ∷ 0x9e ∷ [])
    ∷ (0xa4 ∷ 0x56 ∷ 0x82 ∷ 0xf3 ∷ 0x1e ∷ 0xc6 ∷ 0x68 ∷ 0xe5 ∷ [])
    ∷ (0x02 ∷ 0xa1 ∷ 0xfc ∷ 0xc1 ∷ 0x47 ∷ 0xae ∷ 0x3d ∷ 0x19 ∷ [])
    ∷ (0xa4 ∷ 0x55 ∷ 0x87 ∷ 0x5a ∷ 0x58 ∷ 0xdb ∷ 0x9e ∷ 0x03 ∷ [])
    ∷ []

abbrev pub rs_times : List ℕ → List ℕ
rs_times x = column_times 0x14d rs x

-- ---- the function h (4.3.2)

-- four bytes, each through a permutation of its own
abbrev pub boxed : (ℕ → ℕ) → (ℕ → ℕ) → (ℕ → ℕ) → (ℕ → ℕ) → List ℕ → List ℕ
boxed p0 p1 p2 p3 y =
    p0 (slice_index y 0) ∷ p1 (slice_index y 1) ∷ p2 (slice_index y 2) ∷ p3 (slice_index y 3) ∷ []

-- four bytes with the bytes of word i of a list
abbrev pub keyed : List ℕ → ℕ → List ℕ → List ℕ
keyed l i y = xor_bytes y (to_bytes 4 (slice_index l i))

-- five layers of permutations, with a word of the list after each of the first four, and then MDS
unfoldable pub h : ℕ → List ℕ → ℕ
h x l =
    let y4 : List ℕ = to_bytes 4 x in
    let y3 : List ℕ = keyed l 3 (boxed q1 q0 q0 q1 y4) in
    let y2 : List ℕ = keyed l 2 (boxed q1 q1 q0 q0 y3) in
    let y1 : List ℕ = keyed l 1 (boxed q0 q1 q0 q1 y2) in
    let y0 : List ℕ = keyed l 0 (boxed q0 q0 q1 q1 y1) in
    from_bytes (mds_times (boxed q1 q0 q1 q0 y0))

-- ---- the key schedule (4.3)

-- M_e and M_o: the words M_i of the key of even and of odd number i
abbrev pub even_words : List ℕ → List ℕ
even_words key = word_of key 0 ∷ word_of key 2 ∷ word_of key 4 ∷ word_of key 6 ∷ []

abbrev pub odd_words : List ℕ → List ℕ
odd_words key = word_of key 1 ∷ word_of key 3 ∷ word_of key 5 ∷ word_of key 7 ∷ []

-- S_i, from eight bytes of the key
abbrev pub key_word : List ℕ → ℕ → ℕ
key_word key i = from_bytes (rs_times (piece 8 i key))

unfoldable pub key_words : List ℕ → List ℕ
key_words key = key_word key 0 ∷ key_word key 1 ∷ key_word key 2 ∷ key_word key 3 ∷ []

-- the function g (4.3.3), under S_0 to S_3: h with these words in the reverse order
abbrev pub g_under : List ℕ → ℕ → ℕ
g_under s x = h x (slice_index s 3 ∷ slice_index s 2 ∷ slice_index s 1 ∷ slice_index s 0 ∷ [])

abbrev pub rho : ℕ
rho = 0x01010101

-- A_i and B_i (4.3.4)
abbrev pub part_a : List ℕ → ℕ → ℕ
part_a key i = h (2 * i * rho) (even_words key)

abbrev pub part_b : List ℕ → ℕ → ℕ
part_b key i = rotate_left w32 (h ((2 * i + 1) * rho) (odd_words key)) 8

-- K_2i and K_(2i + 1)
unfoldable pub key_pair : List ℕ → ℕ → List ℕ
key_pair key i =
    (part_a key i + part_b key i) % 2 ^ 32
    ∷ rotate_left w32 ((part_a key i + 2 * part_b key i) % 2 ^ 32) 9
    ∷ []

-- K_0 to K_39
unfoldable pub round_keys : List ℕ → List ℕ
round_keys key = joined (key_pair key) 20

-- ---- the rounds (4), on four words s, under a function g and the words k

-- the function F of round r (4.1): F_0 and F_1, from two words x and y
unfoldable pub f0 : (ℕ → ℕ) → List ℕ → ℕ → ℕ → ℕ → ℕ
f0 g k r x y = (g x + g (rotate_left w32 y 8) + slice_index k (2 * r + 8)) % 2 ^ 32

unfoldable pub f1 : (ℕ → ℕ) → List ℕ → ℕ → ℕ → ℕ → ℕ
f1 g k r x y = (g x + 2 * g (rotate_left w32 y 8) + slice_index k (2 * r + 9)) % 2 ^ 32

-- round r
unfoldable pub feistel : (ℕ → ℕ) → List ℕ → ℕ → List ℕ → List ℕ
feistel g k r s =
    let x : ℕ = slice_index s 0 in
    let y : ℕ = slice_index s 1 in
    rotate_right w32 (bit_xor (slice_index s 2) (f0 g k r x y)) 1
    ∷ bit_xor (rotate_left w32 (slice_index s 3) 1) (f1 g k r x y)
    ∷ x ∷ y ∷ []

-- the four words before round r, from those after it
unfoldable pub inverse_feistel : (ℕ → ℕ) → List ℕ → ℕ → List ℕ → List ℕ
inverse_feistel g k r s =
    let x : ℕ = slice_index s 2 in
    let y : ℕ = slice_index s 3 in
    x ∷ y
    ∷ bit_xor (rotate_left w32 (slice_index s 0) 1) (f0 g k r x y)
    ∷ rotate_right w32 (bit_xor (slice_index s 1) (f1 g k r x y)) 1
    ∷ []

-- rounds 0 to n - 1
unfoldable pub rounds : (ℕ → ℕ) → List ℕ → List ℕ → ℕ → List ℕ
rounds g k s zero = s
rounds g k s (suc n) = feistel g k n (rounds g k s n)

-- rounds 15 down to 16 - n undone
unfoldable pub inverse_rounds : (ℕ → ℕ) → List ℕ → List ℕ → ℕ → List ℕ
inverse_rounds g k s zero = s
inverse_rounds g k s (suc n) = inverse_feistel g k (15 - n) (inverse_rounds g k s n)

-- ---- whole blocks (4)

-- four words with the words K_j to K_(j + 3)
unfoldable pub whitened : List ℕ → ℕ → List ℕ → List ℕ
whitened k j s =
    bit_xor (slice_index s 0) (slice_index k j)
    ∷ bit_xor (slice_index s 1) (slice_index k (j + 1))
    ∷ bit_xor (slice_index s 2) (slice_index k (j + 2))
    ∷ bit_xor (slice_index s 3) (slice_index k (j + 3))
    ∷ []

-- the halves change places, which undoes the exchange of the last round
unfoldable pub exchanged : List ℕ → List ℕ
exchanged s = slice_index s 2 ∷ slice_index s 3 ∷ slice_index s 0 ∷ slice_index s 1 ∷ []

unfoldable pub cipher : (ℕ → ℕ) → List ℕ → List ℕ → List ℕ
cipher g k b = block_of (whitened k 4 (exchanged (rounds g k (whitened k 0 (words_of b)) 16)))

unfoldable pub inverse_cipher : (ℕ → ℕ) → List ℕ → List ℕ → List ℕ
inverse_cipher g k b =
    block_of (whitened k 0 (inverse_rounds g k (exchanged (whitened k 4 (words_of b))) 16))

-- ---- Twofish under a key of 32 bytes

abbrev pub enciphered : List ℕ → List ℕ → List ℕ
enciphered key b = cipher (g_under (key_words key)) (round_keys key) b

abbrev pub deciphered : List ℕ → List ℕ → List ℕ
deciphered key b = inverse_cipher (g_under (key_words key)) (round_keys key) b
