-- The cipher and its inverse undo each other.
--
-- Each step of a round is undone by its inverse on states. The inverse cipher after n rounds back
-- is at what the cipher has after 31 - n rounds, and the other way round.
use Rattle.std.proofs.Common.{◌≡◌, ◌<◌, ◌+◌, ◌-◌, ◌^◌, List, [], ◌∷◌, ℕ, zero, suc, slice_index, slice_index_or, refl, sym, ap, ap₂, ◌∙◌, arith, bit_xor}
use Rattle.std.proofs.lemmas.Nat.{xor_lt}
use Rattle.vc_base.specs.Bytes.{IsBytes}
use Rattle.vc_base.proofs.Xor.{xor_cancel}
use Rattle.vc_base.specs.Words.{AreWords, words_of, block_of}
use Rattle.lane_kernels.specs.SerpentRounds.{entry, inverse_entry, substituted, linear, inverse_linear, add_key, rounds, cipher, inverse_rounds, inverse_cipher}
use Rattle.vc_base.proofs.FourWords.{four, are_four}
use Rattle.lane_kernels.proofs.Substituted.{substituted-words, box_undone, box_done}
use Rattle.vc_base.proofs.FourWords.{words_of-words, words_of-block_of, block_of-words_of}
use Rattle.serpent_core.specs.Laws.Linear.{linear-words, inverse_linear-words, linear_undone, linear_done}

-- round keys are words
pub record AreRoundKeys (ks : List (List ℕ)) : Type 0 where
  pub each : (r j : ℕ) → slice_index (slice_index_or ks r []) j < 2 ^ 32

-- ---- a round key, added and taken away

add_key-words : (ks : List (List ℕ)) (r : ℕ) (x : List ℕ) → AreRoundKeys ks → AreWords 4 x
    → AreWords 4 (add_key ks r x)
unfolding add_key
add_key-words ks r x keys words =
    let sum : (j : ℕ) → bit_xor (slice_index x j) (slice_index (slice_index_or ks r []) j) < 2 ^ 32
    = λ j. xor_lt 32 (slice_index x j) (slice_index (slice_index_or ks r []) j) (words.each j)
    (keys.each r j) in
    are_four _ _ _ _ (sum 0) (sum 1) (sum 2) (sum 3)

add_key_undone : (ks : List (List ℕ)) (r : ℕ) (x : List ℕ) → AreWords 4 x
    → add_key ks r (add_key ks r x) ≡ x
unfolding add_key
add_key_undone ks r x words =
    let back : (j : ℕ)
    → bit_xor (bit_xor (slice_index x j) (slice_index (slice_index_or ks r []) j))
    (slice_index (slice_index_or ks r []) j) ≡ slice_index x j
    = λ j. xor_cancel (slice_index x j) (slice_index (slice_index_or ks r []) j) in
    ap₂ ◌∷◌ (back 0) (ap₂ ◌∷◌ (back 1) (ap₂ ◌∷◌ (back 2) (ap₂ ◌∷◌ (back 3) refl)))
    ∙ sym (four x words.count)

-- ---- the two steps of a round that stand beside the linear transformation, and both undone

abbrev boxed : List (List ℕ) → ℕ → List ℕ → List ℕ
boxed ks r x = substituted (entry r) (add_key ks r x)

abbrev unboxed : List (List ℕ) → ℕ → List ℕ → List ℕ
unboxed ks r x = add_key ks r (substituted (inverse_entry r) x)

unboxed-words : (ks : List (List ℕ)) (r : ℕ) (x : List ℕ) → AreRoundKeys ks
    → AreWords 4 (unboxed ks r x)
unboxed-words ks r x keys =
    add_key-words ks r (substituted (inverse_entry r) x) keys
    (substituted-words (inverse_entry r) x)

boxed_undone : (ks : List (List ℕ)) (r : ℕ) (x : List ℕ) → AreRoundKeys ks → AreWords 4 x
    → unboxed ks r (boxed ks r x) ≡ x
boxed_undone ks r x keys words =
    ap (add_key ks r) (box_undone r (add_key ks r x) (add_key-words ks r x keys words))
    ∙ add_key_undone ks r x words

unboxed_done : (ks : List (List ℕ)) (r : ℕ) (x : List ℕ) → AreWords 4 x
    → boxed ks r (unboxed ks r x) ≡ x
unboxed_done ks r x words =
    ap (substituted (entry r))
    (add_key_undone ks r (substituted (inverse_entry r) x)
    (substituted-words (inverse_entry r) x))
    ∙ box_done r x words

-- ---- the rounds keep a state a state

rounds-words : (ks : List (List ℕ)) (x : List ℕ) (n : ℕ) → AreWords 4 x → AreWords 4 (rounds ks x n)
unfolding rounds
rounds-words ks x zero words = words
rounds-words ks x (suc n) words =
    linear-words (boxed ks n (rounds ks x n)) (substituted-words (entry n)
    (add_key ks n (rounds ks x n)))

inverse_rounds-words : (ks : List (List ℕ)) (x : List ℕ) (n : ℕ) → AreRoundKeys ks
    → AreWords 4 (inverse_rounds ks x n)
unfolding inverse_rounds
inverse_rounds-words ks x zero keys = unboxed-words ks 31 (add_key ks 32 x) keys
inverse_rounds-words ks x (suc n) keys =
    unboxed-words ks (30 - n) (inverse_linear (inverse_rounds ks x n)) keys

-- ---- deciphering goes back through the rounds

-- the state that the cipher ends with
abbrev ended : List (List ℕ) → List ℕ → List ℕ
ended ks x = add_key ks 32 (boxed ks 31 (rounds ks x 31))

ended-words : (ks : List (List ℕ)) (x : List ℕ) → AreRoundKeys ks → AreWords 4 (ended ks x)
ended-words ks x keys =
    add_key-words ks 32 (boxed ks 31 (rounds ks x 31)) keys
    (substituted-words (entry 31) (add_key ks 31 (rounds ks x 31)))

back_one : (ks : List (List ℕ)) (x : List ℕ) (m : ℕ) → AreRoundKeys ks → AreWords 4 x
    → unboxed ks m (inverse_linear (rounds ks x (suc m))) ≡ rounds ks x m
unfolding rounds
back_one ks x m keys words =
    ap (unboxed ks m) (linear_undone (boxed ks m (rounds ks x m))
    (substituted-words (entry m) (add_key ks m (rounds ks x m))))
    ∙ boxed_undone ks m (rounds ks x m) keys (rounds-words ks x m words)

back_through : (ks : List (List ℕ)) (x : List ℕ) (n m : ℕ) → AreRoundKeys ks → AreWords 4 x → n + m ≡ 31
    → inverse_rounds ks (ended ks x) n ≡ rounds ks x m
unfolding inverse_rounds
back_through ks x zero m keys words total =
    let last : 31 ≡ m = omega arith in
    ap (unboxed ks 31)
    (add_key_undone ks 32 (boxed ks 31 (rounds ks x 31))
    (substituted-words (entry 31) (add_key ks 31 (rounds ks x 31))))
    ∙ boxed_undone ks 31 (rounds ks x 31) keys (rounds-words ks x 31 words)
    ∙ ap (rounds ks x) last
back_through ks x (suc n) m keys words total =
    let number : 30 - n ≡ m = omega arith in
    ap (λ (y : List ℕ). unboxed ks (30 - n) (inverse_linear y))
    (back_through ks x n (suc m) keys words (omega arith))
    ∙ ap (λ (k : ℕ). unboxed ks k (inverse_linear (rounds ks x (suc m)))) number
    ∙ back_one ks x m keys words

pub cipher_undone : (ks : List (List ℕ)) (b : List ℕ) → AreRoundKeys ks → IsBytes 16 b
    → inverse_cipher ks (cipher ks b) ≡ b
unfolding cipher inverse_cipher
cipher_undone ks b keys is =
    let x : List ℕ = words_of b in
    let words : AreWords 4 x = words_of-words b is in
    let start : rounds ks x 0 ≡ x = unfold rounds in refl in
    ap (λ (y : List ℕ). block_of (inverse_rounds ks y 31))
    (words_of-block_of (ended ks x) (ended-words ks x keys))
    ∙ ap block_of (back_through ks x 31 0 keys words refl ∙ start)
    ∙ block_of-words_of b is

-- ---- enciphering goes forth through the rounds of the inverse cipher

one_more : (ks : List (List ℕ)) (x : List ℕ) (m n : ℕ) → 30 - m ≡ n
    → inverse_rounds ks x (suc m) ≡ unboxed ks n (inverse_linear (inverse_rounds ks x m))
unfolding inverse_rounds
one_more ks x m n number = ap (λ (k : ℕ). unboxed ks k (inverse_linear (inverse_rounds ks x m)))
    number

forth_through : (ks : List (List ℕ)) (x : List ℕ) (n m : ℕ) → AreRoundKeys ks → n + m ≡ 31
    → rounds ks (inverse_rounds ks x 31) n ≡ inverse_rounds ks x m
unfolding rounds
forth_through ks x zero m keys total =
    let last : 31 ≡ m = omega arith in
    ap (inverse_rounds ks x) last
forth_through ks x (suc n) m keys total =
    let before : List ℕ = inverse_rounds ks x m in
    let words : AreWords 4 before = inverse_rounds-words ks x m keys in
    ap (λ (y : List ℕ). linear (boxed ks n y))
    (forth_through ks x n (suc m) keys (omega arith) ∙ one_more ks x m n (omega arith))
    ∙ ap linear (unboxed_done ks n (inverse_linear before)
    (inverse_linear-words before words))
    ∙ linear_done before words

pub cipher_done : (ks : List (List ℕ)) (b : List ℕ) → AreRoundKeys ks → IsBytes 16 b → cipher ks (inverse_cipher ks b)
    ≡ b
unfolding cipher inverse_cipher
cipher_done ks b keys is =
    let x : List ℕ = words_of b in
    let words : AreWords 4 x = words_of-words b is in
    let first : inverse_rounds ks x 0 ≡ unboxed ks 31 (add_key ks 32 x)
    = unfold inverse_rounds in refl in
    ap (λ (y : List ℕ). block_of (ended ks y)) (words_of-block_of (inverse_rounds ks x 31)
    (inverse_rounds-words ks x 31 keys))
    ∙ ap (λ (y : List ℕ). block_of (add_key ks 32 (boxed ks 31 y)))
    (forth_through ks x 31 0 keys refl ∙ first)
    ∙ ap (λ (y : List ℕ). block_of (add_key ks 32 y))
    (unboxed_done ks 31 (add_key ks 32 x)
    (add_key-words ks 32 x keys words))
    ∙ ap block_of (add_key_undone ks 32 x words)
    ∙ block_of-words_of b is
