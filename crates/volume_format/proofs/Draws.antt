-- The random stream, drawn in parts.
--
-- A part of n bytes, a multiple of 4, is n / 4 words, and leaves the generator n / 4 words on. So
-- one part after another is the stream, and what a generator gives after m bytes is the stream from
-- byte m on.
use Rattle.std.proofs.Common.{◌≡◌, ◌<◌, ℕ, zero, suc, ◌+◌, ◌/◌, ◌%◌, ◌^◌, List, [], ◌++◌, length, take, drop, refl, ap, ◌∙◌, arith, zero-add}
use Rattle.std.proofs.Math.Nat.{mod-add-mod}
use Rattle.std.proofs.lemmas.List.{take_all, drop_at, take_at}
use Rattle.std.specs.Int.{w32, to_le_bytes}
use Rattle.vc_base.specs.Bytes.{joined}
use Rattle.vc_base.proofs.Pieces.{joined-add, joined_same, length-joined}
use Rattle.rand_core.specs.Steps.{word_bytes, fill_via_u32}
use Rattle.rand_chacha.specs.ChaCha.{ChaCha, next_word, word_at}
use Rattle.volume_format.specs.Stream.{advanced, stream_bytes, stream_word}

-- ---- places in the stream, which has 2^68 words

small_place : (p : ℕ) → p < 2 ^ 68 → p ≡ (p + 0) % 2 ^ 68
small_place p fits = omega (arith, fits)

next_place : (p k : ℕ) → ((p + k) % 2 ^ 68 + 1) % 2 ^ 68 ≡ (p + suc k) % 2 ^ 68
next_place p k =
    let e : p + k + 1 ≡ p + suc k = omega arith in
    mod-add-mod (p + k) (2 ^ 68) 1 ∙ ap (λ (x : ℕ). x % 2 ^ 68) e

later_place : (p i j : ℕ) → ((p + i) % 2 ^ 68 + j) % 2 ^ 68 ≡ (p + (i + j)) % 2 ^ 68
later_place p i j =
    let e : p + i + j ≡ p + (i + j) = omega arith in
    mod-add-mod (p + i) (2 ^ 68) j ∙ ap (λ (x : ℕ). x % 2 ^ 68) e

-- ---- words drawn one by one

words_drawn : (g : ChaCha) (k : ℕ) → g.word_pos < 2 ^ 68
    → word_bytes (to_le_bytes w32) (next_word 10) k g
    ≡ (
      joined (λ i. to_le_bytes w32 (stream_word g i)) k,
      record g { word_pos = (g.word_pos + k) % 2 ^ 68 },
    )
unfolding word_bytes joined
words_drawn g zero fits = λ i. ([], record g { word_pos = small_place g.word_pos fits i })
words_drawn g (suc k) fits =
    ap (λ (p : List ℕ × ChaCha).
    (p.0 ++ to_le_bytes w32 (next_word 10 p.1).0, (next_word 10 p.1).1)) (words_drawn g k fits)
    ∙ (λ i. (
      joined (λ i. to_le_bytes w32 (stream_word g i)) k ++ to_le_bytes w32 (stream_word g k),
      record g { word_pos = next_place g.word_pos k i },
    ))

length-word : (x : ℕ) → length (to_le_bytes w32 x) ≡ 4
length-word x = refl

pub length-stream : (g : ChaCha) (at n : ℕ) → n % 4 ≡ 0 → length (stream_bytes g at n) ≡ n
unfolding stream_bytes
length-stream g at n whole =
    length-joined (λ i. to_le_bytes w32 (stream_word g (at / 4 + i))) 4 (n / 4)
    (λ j below. length-word (stream_word g (at / 4 + j)))
    ∙ omega (arith, whole)

-- ---- parts

pub advanced_twice : (g : ChaCha) (m n : ℕ) → m % 4 ≡ 0
    → advanced (advanced g m) n ≡ advanced g (m + n)
advanced_twice g m n whole =
    let sum : m / 4 + n / 4 ≡ (m + n) / 4 = omega (arith, whole) in
    let e : ((g.word_pos + m / 4) % 2 ^ 68 + n / 4) % 2 ^ 68 ≡ (g.word_pos + (m + n) / 4) % 2 ^ 68
    = later_place g.word_pos (m / 4) (n / 4) ∙ ap (λ (x : ℕ). (g.word_pos + x) % 2 ^ 68) sum in
    λ i. record g { word_pos = e i }

pub advanced_none : (g : ChaCha) → g.word_pos < 2 ^ 68 → g ≡ advanced g 0
advanced_none g fits = λ i. record g { word_pos = small_place g.word_pos fits i }

-- what a generator gives after m bytes
pub stream_advanced : (g : ChaCha) (m n : ℕ) → stream_bytes (advanced g m) 0 n ≡ stream_bytes g m n
unfolding stream_bytes
stream_advanced g m n =
    joined_same (λ i. to_le_bytes w32 (stream_word (advanced g m) (0 / 4 + i)))
    (λ i. to_le_bytes w32 (stream_word g (m / 4 + i)))
    (n / 4)
    (λ j below. ap (λ (x : ℕ). to_le_bytes w32 (word_at 10 g.key g.stream x)) (same_place j))
  where
    same_place : (j : ℕ)
        → ((g.word_pos + m / 4) % 2 ^ 68 + (0 / 4 + j)) % 2 ^ 68 ≡
        (g.word_pos + (m / 4 + j)) % 2 ^ 68
    same_place j =
        let e : m / 4 + (0 / 4 + j) ≡ m / 4 + j = omega arith in
        later_place g.word_pos (m / 4) (0 / 4 + j) ∙ ap (λ (x : ℕ). (g.word_pos + x) % 2 ^ 68) e

-- m bytes and then n more
pub stream-add : (g : ChaCha) (at m n : ℕ) → at % 4 ≡ 0 → m % 4 ≡ 0
    → stream_bytes g at (m + n) ≡ stream_bytes g at m ++ stream_bytes g (at + m) n
unfolding stream_bytes
stream-add g at m n place whole =
    let word : ℕ → List ℕ = λ i. to_le_bytes w32 (stream_word g i) in
    let sum : (m + n) / 4 ≡ m / 4 + n / 4 = omega (arith, whole) in
    ap (joined (λ i. word (at / 4 + i))) sum
    ∙ joined-add (λ i. word (at / 4 + i)) (m / 4) (n / 4)
    ∙ ap (λ (xs : List ℕ). joined (λ i. word (at / 4 + i)) (m / 4) ++ xs)
    (joined_same (λ i. word (at / 4 + (m / 4 + i))) (λ i. word ((at + m) / 4 + i)) (n / 4)
    (λ j below. let e : at / 4 + (m / 4 + j) ≡ (at + m) / 4 + j = omega
    (arith, place, whole) in ap word e))

-- the part from byte `at` on
pub stream-part : (g : ChaCha) (at n rest : ℕ) → at % 4 ≡ 0 → n % 4 ≡ 0
    → take n (drop at (stream_bytes g 0 (at + (n + rest)))) ≡ stream_bytes g at n
stream-part g at n rest place whole =
    ap (λ (xs : List ℕ). take n (drop at xs)) (stream-add g 0 at (n + rest) refl place)
    ∙ ap (λ (k : ℕ). take n (drop at (stream_bytes g 0 at ++ stream_bytes g k (n + rest))))
    (zero-add at)
    ∙ ap (take n)
    (drop_at (stream_bytes g 0 at) (stream_bytes g at (n + rest)) at
    (length-stream g 0 at place))
    ∙ ap (take n) (stream-add g at n rest place whole)
    ∙ take_at (stream_bytes g at n) (stream_bytes g (at + n) rest) n (length-stream g at n whole)

-- ---- a drawn part

pub drawn_bytes : (g h : ChaCha) (n : ℕ) (bytes : List ℕ) → g.word_pos < 2 ^ 68 → n % 4 ≡ 0
    → (bytes, h) ≡ fill_via_u32 (next_word 10) n g → bytes ≡ stream_bytes g 0 n
unfolding stream_bytes
drawn_bytes g h n bytes fits whole drawn =
    let count : (n + 3) / 4 ≡ n / 4 = omega (arith, whole) in
    ap (λ (p : List ℕ × ChaCha). p.0) drawn
    ∙ ap (λ (k : ℕ). take n (word_bytes (to_le_bytes w32) (next_word 10) k g).0) count
    ∙ ap (λ (p : List ℕ × ChaCha). take n p.0) (words_drawn g (n / 4) fits)
    ∙ take_all n (joined (λ i. to_le_bytes w32 (stream_word g i)) (n / 4)) (omega (
      arith,
      length-joined (λ i. to_le_bytes w32 (stream_word g i)) 4 (n / 4)
          (λ j below. length-word (stream_word g j)),
    ))
    ∙ joined_same (λ i. to_le_bytes w32 (stream_word g i))
    (λ i. to_le_bytes w32 (stream_word g (0 / 4 + i))) (n / 4)
    (λ j below. let e : j ≡ 0 / 4 + j = omega arith in ap
    (λ (i : ℕ). to_le_bytes w32 (stream_word g i)) e)

pub drawn_place : (g h : ChaCha) (n : ℕ) (bytes : List ℕ) → g.word_pos < 2 ^ 68 → n % 4 ≡ 0
    → (bytes, h) ≡ fill_via_u32 (next_word 10) n g → h ≡ advanced g n
drawn_place g h n bytes fits whole drawn =
    let count : (n + 3) / 4 ≡ n / 4 = omega (arith, whole) in
    ap (λ (p : List ℕ × ChaCha). p.1) drawn
    ∙ ap (λ (k : ℕ). (word_bytes (to_le_bytes w32) (next_word 10) k g).1) count
    ∙ ap (λ (p : List ℕ × ChaCha). p.1) (words_drawn g (n / 4) fits)
