-- Serpent with 256-bit keys (Anderson, Biham and Knudsen, "Serpent: A Proposal for the Advanced
-- Encryption Standard"): the key schedule, and the cipher under a key. The rounds are defined in
-- `lane_kernels`, on states of 4 words.
--
-- A word is a number below 2^32, which four bytes spell, the lowest first. A key is 32 bytes and 8
-- words. Boxes are counted modulo 8.
--
-- prekeys key n          the words of the key, and the first n prekeys after them
-- round_key key i        round key i, of 4 words
-- round_keys key         all 33
-- enciphered key b       what the block b becomes under a key of 32 bytes
-- deciphered key b       the block that it came from
use Rattle.std.specs.Prelude.{ℕ, zero, suc, ◌+◌, ◌-◌, List, [], ◌∷◌, ◌++◌, drop, slice_index, bit_xor}
use Rattle.std.specs.Int.{w32, rotate_left}
use Rattle.vc_base.specs.Bytes.{piece, joined}
use Rattle.vc_base.specs.Words.{word_of}
use Rattle.lane_kernels.specs.SerpentRounds.{entry, substituted, xor_three, cipher, inverse_cipher}

-- ---- the key schedule

-- the first 32 bits of the fractional part of the golden ratio
abbrev pub golden : ℕ
golden = 0x9e3779b9

-- w_i, from the words before it: w_-8 to w_-1 are elements 0 to 7, and so w_(i - 8) is element i
unfoldable pub next_prekey : List ℕ → ℕ → ℕ
next_prekey w i =
    let term : ℕ → ℕ = λ j. slice_index w (i + j) in
    let words : ℕ = bit_xor (xor_three (term 0) (term 3) (term 5)) (term 7) in
    rotate_left w32 (bit_xor words (bit_xor golden i)) 11

unfoldable pub prekeys : List ℕ → ℕ → List ℕ
prekeys key zero =
    word_of key 0 ∷ word_of key 1 ∷ word_of key 2 ∷ word_of key 3
    ∷ word_of key 4 ∷ word_of key 5 ∷ word_of key 6 ∷ word_of key 7 ∷ []
prekeys key (suc i) = prekeys key i ++ next_prekey (prekeys key i) i ∷ []

-- Round key i, for i from 0 to 32: S-box 3 - i of w_4i to w_(4i + 3). Modulo 8, 35 - i is 3 - i.
unfoldable pub round_key : List ℕ → ℕ → List ℕ
round_key key i = substituted (entry (35 - i)) (piece 4 i (drop 8 (prekeys key 132)))

abbrev pub round_keys : List ℕ → List (List ℕ)
round_keys key = joined (λ i. round_key key i ∷ []) 33

-- ---- Serpent under a key of 32 bytes

abbrev pub enciphered : List ℕ → List ℕ → List ℕ
enciphered key b = cipher (round_keys key) b

abbrev pub deciphered : List ℕ → List ℕ → List ℕ
deciphered key b = inverse_cipher (round_keys key) b
