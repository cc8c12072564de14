-- Lists of four words, and the blocks that spell them: each of the two gives the other.
use Rattle.std.proofs.Common.{◌≡◌, ◌<◌, ◌≤◌, ◌+◌, ◌*◌, ◌^◌, List, [], ◌∷◌, ◌++◌, ℕ, zero, suc, length, drop, get_or, slice_index, refl, sym, ap, ap₂, ◌∙◌, subst, arith, lit<, lit≤}
use Rattle.std.proofs.Math.Seq.{drop-cons}
use Rattle.std.proofs.lemmas.List.{drop_all}
use Rattle.vc_base.specs.Bytes.{IsBytes, from_bytes, to_bytes, piece}
use Rattle.vc_base.specs.Words.{AreWords, word_of, words_of, block_of}
use Rattle.vc_base.proofs.Bytes.{IsBytes-to_bytes, IsBytes-append, IsBytes-piece, from_bytes_below, from_bytes-to_bytes, to_bytes-from_bytes}

-- n elements of xs, from i on
abbrev pub listed : ℕ → List ℕ → ℕ → List ℕ
listed zero xs i = []
listed (suc n) xs i = get_or xs i 0 ∷ listed n xs (suc i)

pub drop-listed : (n : ℕ) (xs : List ℕ) (i : ℕ) → length xs ≡ i + n → drop i xs ≡ listed n xs i
drop-listed zero xs i long = drop_all i xs (omega arith)
drop-listed (suc n) xs i long =
    drop-cons xs i 0 (omega arith)
    ∙ ap (λ (ys : List ℕ). get_or xs i 0 ∷ ys) (drop-listed n xs (suc i) (omega arith))

abbrev pub four_of : (ℕ → ℕ) → List ℕ
four_of f = f 0 ∷ f 1 ∷ f 2 ∷ f 3 ∷ []

-- a list of four is that of its elements
pub four : (x : List ℕ) → length x ≡ 4 → x ≡ four_of (slice_index x)
four x long = drop-listed 4 x 0 long

pub four-ext : (f g : ℕ → ℕ) → ((j : ℕ) → j < 4 → f j ≡ g j) → four_of f ≡ four_of g
four-ext f g same =
    let more : (j : ℕ) (xs ys : List ℕ) → j < 4 → xs ≡ ys → f j ∷ xs ≡ g j ∷ ys
    = λ j xs ys below rest. ap₂ ◌∷◌ (same j below) rest in
    more 0 _ _ (lit< tt) (more 1 _ _ (lit< tt) (more 2 _ _ (lit< tt) (more 3 _ _ (lit< tt) refl)))

-- each element is a word
record EachWord (xs : List ℕ) : Type 0 where
  each : (i : ℕ) → slice_index xs i < 2 ^ 32

each_below : (x : ℕ) (xs : List ℕ) → x < 2 ^ 32 → ((i : ℕ) → slice_index xs i < 2 ^ 32) → (i : ℕ)
    → slice_index (x ∷ xs) i < 2 ^ 32
each_below x xs first rest zero = first
each_below x xs first rest (suc i) = rest i

each_none : EachWord []
each_none = record { each = λ i. lit< tt }

each_more : (x : ℕ) (xs : List ℕ) → x < 2 ^ 32 → EachWord xs → EachWord (x ∷ xs)
each_more x xs first rest = record { each = each_below x xs first rest.each }

pub are_four : (a b c d : ℕ) → a < 2 ^ 32 → b < 2 ^ 32 → c < 2 ^ 32 → d < 2 ^ 32
    → AreWords 4 (a ∷ b ∷ c ∷ d ∷ [])
are_four a b c d a_word b_word c_word d_word =
    let all : EachWord (a ∷ b ∷ c ∷ d ∷ []) =
    each_more a _ a_word (each_more b _ b_word (each_more c _ c_word
    (each_more d _ d_word each_none))) in
    record { count = refl; each = all.each }

pub are_words : (x : List ℕ) → length x ≡ 4 → get_or x 0 0 < 2 ^ 32 → get_or x 1 0 < 2 ^ 32
    → get_or x 2 0 < 2 ^ 32 → get_or x 3 0 < 2 ^ 32 → AreWords 4 x
are_words x long word_0 word_1 word_2 word_3 =
    subst (λ (y : List ℕ). AreWords 4 y) (sym (four x long))
    (are_four _ _ _ _ word_0 word_1 word_2 word_3)

-- ---- blocks

-- a block is bytes, whatever the words
pub block_of-bytes : (x : List ℕ) → IsBytes 16 (block_of x)
unfolding block_of
block_of-bytes x =
    let part : (j : ℕ) → IsBytes 4 (to_bytes 4 (slice_index x j))
    = λ j. IsBytes-to_bytes 4 (slice_index x j) in
    IsBytes-append 12 4 _ _ (IsBytes-append 8 4 _ _ (IsBytes-append 4 4 _ _ (part 0) (part 1))
    (part 2)) (part 3)

pub words_of-words : (b : List ℕ) → IsBytes 16 b → AreWords 4 (words_of b)
unfolding words_of
words_of-words b is =
    let below : (j : ℕ) → 4 * j + 4 ≤ 16 → word_of b j < 2 ^ 32
    = λ j inside. from_bytes_below 4 (piece 4 j b) (IsBytes-piece 16 4 j b is inside) in
    are_four _ _ _ _ (below 0 (lit≤ tt)) (below 1 (lit≤ tt)) (below 2 (lit≤ tt)) (below 3 (lit≤ tt))

pub words_of-block_of : (x : List ℕ) → AreWords 4 x → words_of (block_of x) ≡ x
unfolding words_of block_of to_bytes
words_of-block_of x words =
    let back : (j : ℕ) → from_bytes (to_bytes 4 (slice_index x j)) ≡ slice_index x j
    = λ j. from_bytes-to_bytes 4 (slice_index x j) (words.each j) in
    four-ext (λ j. from_bytes (to_bytes 4 (slice_index x j))) (slice_index x) (λ j below. back j)
    ∙ sym (four x words.count)

-- the four pieces of a block are the block
pieces_joined : (b : List ℕ) → IsBytes 16 b → piece 4 0 b ++ piece 4 1 b ++ piece 4 2 b ++ piece 4 3
    b ≡ b
pieces_joined b is =
    let written : b ≡ listed 16 b 0 = drop-listed 16 b 0 is.count in
    ap (λ (y : List ℕ). piece 4 0 y ++ piece 4 1 y ++ piece 4 2 y ++ piece 4 3 y) written
    ∙ sym written

pub block_of-words_of : (b : List ℕ) → IsBytes 16 b → block_of (words_of b) ≡ b
unfolding words_of block_of
block_of-words_of b is =
    let back : (j : ℕ) → 4 * j + 4 ≤ 16 → to_bytes 4 (word_of b j) ≡ piece 4 j b
    = λ j inside. to_bytes-from_bytes 4 (piece 4 j b) (IsBytes-piece 16 4 j b is inside) in
    ap₂ ◌++◌ (ap₂ ◌++◌ (ap₂ ◌++◌ (back 0 (lit≤ tt)) (back 1 (lit≤ tt))) (back 2 (lit≤ tt)))
    (back 3 (lit≤ tt))
    ∙ pieces_joined b is
