-- The cipher and its inverse undo each other, and keep blocks blocks.
--
-- A round is undone by its inverse, whatever g is. After n rounds the inverse cipher has the words
-- before round 16 - n, and the other way round.
use Rattle.std.proofs.Common.{◌≡◌, ◌<◌, ◌+◌, ◌-◌, ◌^◌, List, ℕ, zero, suc, slice_index, bit_xor, refl, sym, ap, ◌∙◌, arith, w32}
use Rattle.std.specs.Int.{rotate_left, rotate_right}
use Rattle.vc_base.specs.Bytes.{IsBytes}
use Rattle.vc_base.proofs.Xor.{xor_cancel}
use Rattle.vc_base.specs.Words.{words_of, block_of}
use Rattle.twofish_core.specs.Twofish.{f0, f1, feistel, inverse_feistel, rounds, inverse_rounds, whitened, exchanged, cipher, inverse_cipher}
use Rattle.vc_base.specs.Words.{AreWords}
use Rattle.vc_base.proofs.FourWords.{four, are_four, block_of-bytes, words_of-words, words_of-block_of, block_of-words_of}
use Rattle.twofish_core.specs.Laws.Words.{same_four, xor_word, left_word, right_word, left_of_right, right_of_left}

-- ---- the whitening and the exchange

whitened_words : (k : List ℕ) (j : ℕ) (s : List ℕ) → AreWords 40 k → AreWords 4 s
    → AreWords 4 (whitened k j s)
unfolding whitened
whitened_words k j s key is =
    are_four _ _ _ _
    (xor_word _ _ (is.each 0) (key.each j)) (xor_word _ _ (is.each 1) (key.each (j + 1)))
    (xor_word _ _ (is.each 2) (key.each (j + 2))) (xor_word _ _ (is.each 3) (key.each (j + 3)))

whitened_undone : (k : List ℕ) (j : ℕ) (s : List ℕ) → AreWords 4 s
    → whitened k j (whitened k j s) ≡ s
unfolding whitened
whitened_undone k j s is =
    let one : (i r : ℕ)
    → bit_xor (bit_xor (slice_index s i) (slice_index k r)) (slice_index k r) ≡ slice_index s i
    = λ i r. xor_cancel (slice_index s i) (slice_index k r) in
    same_four _ _ _ _ _ _ _ _ (one 0 j) (one 1 (j + 1)) (one 2 (j + 2)) (one 3 (j + 3))
    ∙ sym (four s is.count)

exchanged_words : (s : List ℕ) → AreWords 4 s → AreWords 4 (exchanged s)
unfolding exchanged
exchanged_words s is = are_four _ _ _ _ (is.each 2) (is.each 3) (is.each 0) (is.each 1)

exchanged_undone : (s : List ℕ) → AreWords 4 s → exchanged (exchanged s) ≡ s
unfolding exchanged
exchanged_undone s is = sym (four s is.count)

-- ---- one round

f0_word : (f : ℕ → ℕ) (k : List ℕ) (r x y : ℕ) → f0 f k r x y < 2 ^ 32
unfolding f0
f0_word f k r x y = omega arith

f1_word : (f : ℕ → ℕ) (k : List ℕ) (r x y : ℕ) → f1 f k r x y < 2 ^ 32
unfolding f1
f1_word f k r x y = omega arith

feistel_words : (f : ℕ → ℕ) (k : List ℕ) (r : ℕ) (s : List ℕ) → AreWords 4 s
    → AreWords 4 (feistel f k r s)
unfolding feistel
feistel_words f k r s is =
    are_four _ _ _ _
    (right_word _ (xor_word _ _ (is.each 2) (f0_word f k r _ _)))
    (xor_word _ _ (left_word _ (is.each 3)) (f1_word f k r _ _))
    (is.each 0) (is.each 1)

inverse_feistel_words : (f : ℕ → ℕ) (k : List ℕ) (r : ℕ) (s : List ℕ) → AreWords 4 s
    → AreWords 4 (inverse_feistel f k r s)
unfolding inverse_feistel
inverse_feistel_words f k r s is =
    are_four _ _ _ _ (is.each 2) (is.each 3)
    (xor_word _ _ (left_word _ (is.each 0)) (f0_word f k r _ _))
    (right_word _ (xor_word _ _ (is.each 1) (f1_word f k r _ _)))

-- a word comes back that is added to and rotated right, and one that is rotated left and added to
added_rotated : (a t : ℕ) → a < 2 ^ 32 → t < 2 ^ 32
    → bit_xor (rotate_left w32 (rotate_right w32 (bit_xor a t) 1) 1) t ≡ a
added_rotated a t is_a is_t =
    ap (λ (x : ℕ). bit_xor x t) (left_of_right (bit_xor a t) (xor_word a t is_a is_t))
    ∙ xor_cancel a t

rotated_added : (a t : ℕ) → a < 2 ^ 32
    → rotate_right w32 (bit_xor (bit_xor (rotate_left w32 a 1) t) t) 1 ≡ a
rotated_added a t is_a =
    ap (λ (x : ℕ). rotate_right w32 x 1) (xor_cancel (rotate_left w32 a 1) t) ∙ right_of_left a is_a

feistel_undone : (f : ℕ → ℕ) (k : List ℕ) (r : ℕ) (s : List ℕ) → AreWords 4 s
    → inverse_feistel f k r (feistel f k r s) ≡ s
unfolding feistel inverse_feistel
feistel_undone f k r s is =
    let x : ℕ = slice_index s 0 in
    let y : ℕ = slice_index s 1 in
    same_four _ _ _ _ _ _ _ _ refl refl
    (added_rotated (slice_index s 2) (f0 f k r x y) (is.each 2) (f0_word f k r x y))
    (rotated_added (slice_index s 3) (f1 f k r x y) (is.each 3))
    ∙ sym (four s is.count)

feistel_done : (f : ℕ → ℕ) (k : List ℕ) (r : ℕ) (s : List ℕ) → AreWords 4 s
    → feistel f k r (inverse_feistel f k r s) ≡ s
unfolding feistel inverse_feistel
feistel_done f k r s is =
    let x : ℕ = slice_index s 2 in
    let y : ℕ = slice_index s 3 in
    same_four _ _ _ _ _ _ _ _
    (rotated_added (slice_index s 0) (f0 f k r x y) (is.each 0))
    (added_rotated (slice_index s 1) (f1 f k r x y) (is.each 1) (f1_word f k r x y))
    refl refl
    ∙ sym (four s is.count)

-- ---- sixteen rounds

rounds_words : (f : ℕ → ℕ) (k s : List ℕ) (n : ℕ) → AreWords 4 s → AreWords 4 (rounds f k s n)
unfolding rounds
rounds_words f k s zero is = is
rounds_words f k s (suc n) is = feistel_words f k n (rounds f k s n) (rounds_words f k s n is)

inverse_rounds_words : (f : ℕ → ℕ) (k s : List ℕ) (n : ℕ) → AreWords 4 s
    → AreWords 4 (inverse_rounds f k s n)
unfolding inverse_rounds
inverse_rounds_words f k s zero is = is
inverse_rounds_words f k s (suc n) is =
    inverse_feistel_words f k (15 - n) (inverse_rounds f k s n) (inverse_rounds_words f k s n is)

-- back to the words before round m
back_through : (f : ℕ → ℕ) (k s : List ℕ) (n m : ℕ) → AreWords 4 s → n + m ≡ 16
    → inverse_rounds f k (rounds f k s 16) n ≡ rounds f k s m
unfolding inverse_rounds
back_through f k s zero m is sum =
    let all : 16 ≡ m = omega arith in
    ap (rounds f k s) all
back_through f k s (suc n) m is sum =
    let number : 15 - n ≡ m = omega arith in
    let last : rounds f k s (suc m) ≡ feistel f k m (rounds f k s m) = unfold rounds in refl in
    ap (inverse_feistel f k (15 - n)) (back_through f k s n (suc m) is (omega arith) ∙ last)
    ∙ ap (λ (r : ℕ). inverse_feistel f k r (feistel f k m (rounds f k s m))) number
    ∙ feistel_undone f k m (rounds f k s m) (rounds_words f k s m is)

-- forth through the rounds of the inverse cipher
forth_through : (f : ℕ → ℕ) (k s : List ℕ) (n m : ℕ) → AreWords 4 s → n + m ≡ 16
    → rounds f k (inverse_rounds f k s 16) n ≡ inverse_rounds f k s m
unfolding rounds
forth_through f k s zero m is sum =
    let all : 16 ≡ m = omega arith in
    ap (inverse_rounds f k s) all
forth_through f k s (suc n) m is sum =
    let number : 15 - m ≡ n = omega arith in
    let last : inverse_rounds f k s (suc m) ≡ inverse_feistel f k (15 - m) (inverse_rounds f k s m)
    = unfold inverse_rounds in refl in
    ap (feistel f k n) (forth_through f k s n (suc m) is (omega arith) ∙ last)
    ∙ ap (λ (r : ℕ). feistel f k n (inverse_feistel f k r (inverse_rounds f k s m))) number
    ∙ feistel_done f k n (inverse_rounds f k s m) (inverse_rounds_words f k s m is)

-- ---- the laws

pub cipher_is_block : (f : ℕ → ℕ) (k b : List ℕ) → IsBytes 16 (cipher f k b)
unfolding cipher
cipher_is_block f k b = block_of-bytes _

pub inverse_cipher_is_block : (f : ℕ → ℕ) (k b : List ℕ) → IsBytes 16 (inverse_cipher f k b)
unfolding inverse_cipher
inverse_cipher_is_block f k b = block_of-bytes _

-- four words with K_j to K_(j + 3), written as a block, read again and with the same words again
unwhitened : (k : List ℕ) (j : ℕ) (s : List ℕ) → AreWords 40 k → AreWords 4 s
    → whitened k j (words_of (block_of (whitened k j s))) ≡ s
unwhitened k j s key is =
    ap (whitened k j) (words_of-block_of (whitened k j s) (whitened_words k j s key is))
    ∙ whitened_undone k j s is

rewritten : (k : List ℕ) (j : ℕ) (b : List ℕ) → AreWords 40 k → IsBytes 16 b
    → block_of (whitened k j (whitened k j (words_of b))) ≡ b
rewritten k j b key is =
    ap block_of (whitened_undone k j (words_of b) (words_of-words b is)) ∙ block_of-words_of b is

pub cipher_undone : (f : ℕ → ℕ) (k b : List ℕ) → AreWords 40 k → IsBytes 16 b
    → inverse_cipher f k (cipher f k b) ≡ b
unfolding cipher inverse_cipher
cipher_undone f k b key is =
    let first : List ℕ = whitened k 0 (words_of b) in
    let are_first : AreWords 4 first
    = whitened_words k 0 (words_of b) key (words_of-words b is) in
    let last : List ℕ = rounds f k first 16 in
    let are_last : AreWords 4 last = rounds_words f k first 16 are_first in
    let start : exchanged (whitened k 4 (words_of (block_of (whitened k 4 (exchanged last)))))
    ≡ last
    = ap exchanged (unwhitened k 4 (exchanged last) key (exchanged_words last are_last))
    ∙ exchanged_undone last are_last in
    let none : rounds f k first 0 ≡ first = unfold rounds in refl in
    ap (λ (s : List ℕ). block_of (whitened k 0 (inverse_rounds f k s 16))) start
    ∙ ap (λ (s : List ℕ). block_of (whitened k 0 s))
    (back_through f k first 16 0 are_first refl ∙ none)
    ∙ rewritten k 0 b key is

pub cipher_done : (f : ℕ → ℕ) (k b : List ℕ) → AreWords 40 k → IsBytes 16 b
    → cipher f k (inverse_cipher f k b) ≡ b
unfolding cipher inverse_cipher
cipher_done f k b key is =
    let read : List ℕ = whitened k 4 (words_of b) in
    let are_read : AreWords 4 read
    = whitened_words k 4 (words_of b) key (words_of-words b is) in
    let first : List ℕ = exchanged read in
    let are_first : AreWords 4 first = exchanged_words read are_read in
    let last : List ℕ = inverse_rounds f k first 16 in
    let start : whitened k 0 (words_of (block_of (whitened k 0 last))) ≡ last
    = unwhitened k 0 last key (inverse_rounds_words f k first 16 are_first) in
    let none : inverse_rounds f k first 0 ≡ first = unfold inverse_rounds in refl in
    ap (λ (s : List ℕ). block_of (whitened k 4 (exchanged (rounds f k s 16)))) start
    ∙ ap (λ (s : List ℕ). block_of (whitened k 4 (exchanged s)))
    (forth_through f k first 16 0 are_first refl ∙ none)
    ∙ ap (λ (s : List ℕ). block_of (whitened k 4 s)) (exchanged_undone read are_read)
    ∙ rewritten k 4 b key is
