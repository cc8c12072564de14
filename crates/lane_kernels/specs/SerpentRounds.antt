-- Serpent under given round keys (Anderson, Biham and Knudsen, "Serpent: A Proposal for the Advanced
-- Encryption Standard"), in its bitslice form, as functions on lists of bytes and words. Each
-- heading names the part of the submission that it comes from.
--
-- A word is a number below 2^32, which four bytes spell, the lowest first. A block is 16 bytes and
-- a state the 4 words that they spell. Boxes are counted modulo 8. There are 33 round keys, each of
-- 4 words.
--
-- entry k n, inverse_entry k n     what S-box k makes of the nibble n; the nibble it makes n of
-- nibble x i                       the bits of place i of the four words of the state x
-- substituted f x                  the state whose nibbles are what f makes of those of x
-- linear, inverse_linear           the linear transformation and its inverse
-- add_key ks i x                   the state x with round key i of ks added
-- cipher ks b                      what the block b becomes under the round keys ks
-- inverse_cipher ks b              the block that it came from
use Rattle.std.specs.Prelude.{ℕ, zero, suc, ◌+◌, ◌-◌, ◌*◌, ◌%◌, ◌^◌, ◌==◌, List, [], ◌∷◌, slice_index, slice_index_or, bit_xor}
use Rattle.std.specs.Int.{w32, bit_at, rotate_left, rotate_right}
use Rattle.vc_base.specs.Bits.{of_bits, number_below}
use Rattle.vc_base.specs.Words.{words_of, block_of}

-- ---- the S-boxes

-- the entries of S-box 0 at 0 to 15, then those of S-box 1, and so on
abbrev pub entries : List ℕ
entries =
    3 ∷ 8 ∷ 15 ∷ 1 ∷ 10 ∷ 6 ∷ 5 ∷ 11 ∷ 14 ∷ 13 ∷ 4 ∷ 2 ∷ 7 ∷ 0 ∷ 9 ∷ 12
    ∷ 15 ∷ 12 ∷ 2 ∷ 7 ∷ 9 ∷ 0 ∷ 5 ∷ 10 ∷ 1 ∷ 11 ∷ 14 ∷ 8 ∷ 6 ∷ 13 ∷ 3 ∷ 4
    ∷ 8 ∷ 6 ∷ 7 ∷ 9 ∷ 3 ∷ 12 ∷ 10 ∷ 15 ∷ 13 ∷ 1 ∷ 14 ∷ 4 ∷ 0 ∷ 11 ∷ 5 ∷ 2
    ∷ 0 ∷ 15 ∷ 11 ∷ 8 ∷ 12 ∷ 9 ∷ 6 ∷ 3 ∷ 13 ∷ 1 ∷ 2 ∷ 4 ∷ 10 ∷ 7 ∷ 5 ∷ 14
    ∷ 1 ∷ 15 ∷ 8 ∷ 3 ∷ 12 ∷ 0 ∷ 11 ∷ 6 ∷ 2 ∷ 5 ∷ 4 ∷ 10 ∷ 9 ∷ 14 ∷ 7 ∷ 13
    ∷ 15 ∷ 5 ∷ 2 ∷ 11 ∷ 4 ∷ 10 ∷ 9 ∷ 12 ∷ 0 ∷ 3 ∷ 14 ∷ 8 ∷ 13 ∷ 6 ∷ 7 ∷ 1
    ∷ 7 ∷ 2 ∷ 12 ∷ 5 ∷ 8 ∷ 4 ∷ 6 ∷ 11 ∷ 14 ∷ 9 ∷ 1 ∷ 15 ∷ 13 ∷ 3 ∷ 10 ∷ 0
    ∷ 1 ∷ 13 ∷ 15 ∷ 0 ∷ 14 ∷ 8 ∷ 2 ∷ 11 ∷ 7 ∷ 4 ∷ 12 ∷ 10 ∷ 9 ∷ 3 ∷ 5 ∷ 6 ∷ []

-- what S-box k makes of a nibble, a number below 16
unfoldable pub entry : ℕ → ℕ → ℕ
entry k n = slice_index entries (16 * (k % 8) + n)

-- the nibble whose entry is n
unfoldable pub inverse_entry : ℕ → ℕ → ℕ
inverse_entry k n = number_below 16 (λ m. entry k m == n)

-- the nibble of place i: its lowest bit is that of word 0, its highest that of word 3
abbrev pub nibble : List ℕ → ℕ → ℕ
nibble x i =
    bit_at (slice_index x 0) i + 2 * bit_at (slice_index x 1) i
    + 4 * bit_at (slice_index x 2) i + 8 * bit_at (slice_index x 3) i

-- 32 copies of a box at once, one for each place
unfoldable pub substituted : (ℕ → ℕ) → List ℕ → List ℕ
substituted f x =
    let word : ℕ → ℕ = λ j. of_bits (λ i. bit_at (f (nibble x i)) j) 32 in
    word 0 ∷ word 1 ∷ word 2 ∷ word 3 ∷ []

-- ---- the linear transformation

-- the XOR of three words
abbrev pub xor_three : ℕ → ℕ → ℕ → ℕ
xor_three a b c = bit_xor (bit_xor a b) c

-- a word shifted left, without the bits that leave it
abbrev pub shifted : ℕ → ℕ → ℕ
shifted x k = x * 2 ^ k % 2 ^ 32

-- a0 to a3 are the words half way, and b0 to b3 those before the last two rotations
unfoldable pub linear : List ℕ → List ℕ
linear x =
    let a0 : ℕ = rotate_left w32 (slice_index x 0) 13 in
    let a2 : ℕ = rotate_left w32 (slice_index x 2) 3 in
    let a1 : ℕ = xor_three (slice_index x 1) a0 a2 in
    let a3 : ℕ = xor_three (slice_index x 3) a2 (shifted a0 3) in
    let b1 : ℕ = rotate_left w32 a1 1 in
    let b3 : ℕ = rotate_left w32 a3 7 in
    let b0 : ℕ = xor_three a0 b1 b3 in
    let b2 : ℕ = xor_three a2 b3 (shifted b1 7) in
    rotate_left w32 b0 5 ∷ b1 ∷ rotate_left w32 b2 22 ∷ b3 ∷ []

-- the same steps undone, the last first
unfoldable pub inverse_linear : List ℕ → List ℕ
inverse_linear x =
    let b1 : ℕ = slice_index x 1 in
    let b3 : ℕ = slice_index x 3 in
    let b2 : ℕ = rotate_right w32 (slice_index x 2) 22 in
    let b0 : ℕ = rotate_right w32 (slice_index x 0) 5 in
    let a2 : ℕ = xor_three b2 b3 (shifted b1 7) in
    let a0 : ℕ = xor_three b0 b1 b3 in
    let a3 : ℕ = rotate_right w32 b3 7 in
    let a1 : ℕ = rotate_right w32 b1 1 in
    rotate_right w32 a0 13 ∷ xor_three a1 a0 a2
    ∷ rotate_right w32 a2 3 ∷ xor_three a3 a2 (shifted a0 3) ∷ []

-- ---- the cipher, under the round keys ks

-- four words, added to a state word by word
abbrev pub add_words : List ℕ → List ℕ → List ℕ
add_words key x =
    let sum : ℕ → ℕ = λ j. bit_xor (slice_index x j) (slice_index key j) in
    sum 0 ∷ sum 1 ∷ sum 2 ∷ sum 3 ∷ []

-- round key i is added to a state, and so taken from it again
unfoldable pub add_key : List (List ℕ) → ℕ → List ℕ → List ℕ
add_key ks i x = add_words (slice_index_or ks i []) x

-- the state x after n rounds
unfoldable pub rounds : List (List ℕ) → List ℕ → ℕ → List ℕ
rounds ks x zero = x
rounds ks x (suc n) = linear (substituted (entry n) (add_key ks n (rounds ks x n)))

-- the last round adds a second key in place of the linear transformation
unfoldable pub cipher : List (List ℕ) → List ℕ → List ℕ
cipher ks b =
    let last : List ℕ = substituted (entry 31) (add_key ks 31 (rounds ks (words_of b) 31)) in
    block_of (add_key ks 32 last)

-- ---- decryption, under the round keys ks

-- the state x after the last round and the n rounds before it were undone
unfoldable pub inverse_rounds : List (List ℕ) → List ℕ → ℕ → List ℕ
inverse_rounds ks x zero = add_key ks 31 (substituted (inverse_entry 31) (add_key ks 32 x))
inverse_rounds ks x (suc n) =
    let boxed : List ℕ = inverse_linear (inverse_rounds ks x n) in
    add_key ks (30 - n) (substituted (inverse_entry (30 - n)) boxed)

unfoldable pub inverse_cipher : List (List ℕ) → List ℕ → List ℕ
inverse_cipher ks b = block_of (inverse_rounds ks (words_of b) 31)
