-- The fill: parts of the stream, written one behind another, are one part of it.
--
-- Each part except the last is whole words, so the next one begins with a word.
use Rattle.std.proofs.Common.{◌≡◌, ◌≤◌, ◌<◌, ℕ, ◌+◌, ◌-◌, ◌*◌, ◌/◌, ◌%◌, List, [], ◌++◌, length, take, drop, replicate, Option, Some, None, refl, sym, ap, ap₂, ◌∙◌, arith, add-zero, zero-add, append_assoc, length-append, length-drop, length-take-le, take-add, take-append-drop, drop_at, take_at}
use Rattle.std.specs.Int.{div_ceil, w32, to_le_bytes}
use Rattle.std.specs.Prelude.{IfSome}
use Rattle.std.proofs.lemmas.List.{append-nil, drop_all, drop-append-le, drop-drop, drop-take, length-take, take-append-le, take-take, take_all}
use Rattle.vc_base.specs.Bytes.{joined}
use Rattle.rand_chacha.specs.ChaCha.{ChaCha}
use Rattle.vc_outside.specs.Told.{Both, resized, written}
use Rattle.vc_outside.proofs.Writes.{length-resized}
use Rattle.volume_format.specs.Stream.{advanced, stream_bytes, stream_word}
use Rattle.volume_format.proofs.Draws.{advanced_twice, length-stream, stream-add, stream_advanced}
use Rattle.volume_format.proofs.Writes.{drop_behind, take_through}
use Rattle.vol_expand.specs.Expanded.{fill_bytes, words_of}

-- ---- bytes written one behind another

written_none : (at : ℕ) (b : List ℕ) → written at [] b ≡ b
written_none at b = ap (λ (k : ℕ). take at b ++ drop k b) (add-zero at) ∙ take-append-drop at b

written_more : (at : ℕ) (xs ys b : List ℕ) → at + length xs ≤ length b
    → written (at + length xs) ys (written at xs b) ≡ written at (xs ++ ys) b
written_more at xs ys b inside =
    let n : ℕ = length xs in
    let m : ℕ = length ys in
    let both : at + n + m ≡ at + length (xs ++ ys) = omega (arith, length-append xs ys) in
    ap₂ (λ (p s : List ℕ). p ++ (ys ++ s))
    (take_through at n xs b refl (omega (arith, inside)))
    (drop_behind at (at + n + m) xs b (omega arith) inside)
    ∙ append_assoc (take at b) xs (ys ++ drop (at + n + m) b)
    ∙ ap (λ (s : List ℕ). take at b ++ s) (sym (append_assoc xs ys (drop (at + n + m) b)))
    ∙ ap (λ (k : ℕ). take at b ++ ((xs ++ ys) ++ drop k b)) both

-- written up to the end of a list that was lengthened
pub written_to_the_end : (at size : ℕ) (xs b : List ℕ) → at ≤ length b → length b ≤ size → at + length xs ≡ size
    → written at xs (resized size b) ≡ take at b ++ xs
written_to_the_end at size xs b inside longer end =
    ap₂ (λ (p s : List ℕ). p ++ (xs ++ s)) first
    (drop_all (at + length xs) (resized size b) (omega (arith, end, length-resized size b)))
    ∙ ap (λ (s : List ℕ). take at b ++ s) (append-nil xs)
  where
    first : take at (resized size b) ≡ take at b
    first =
        take-append-le at (take size b) (replicate (size - length b) 0)
        (omega (arith, length-take size b, inside, longer))
        ∙ take-take at size b (omega (arith, inside, longer))

-- ---- the bytes of the fill

pub words_whole : (n : ℕ) → words_of n % 4 ≡ 0
words_whole n = omega arith

pub length-fill : (g : ChaCha) (n : ℕ) → length (fill_bytes g n) ≡ n
length-fill g n =
    length-take-le n (stream_bytes g 0 (words_of n))
    (omega (arith, length-stream g 0 (words_of n) (words_whole n)))

whole_fill : (g : ChaCha) (n : ℕ) → n % 4 ≡ 0 → fill_bytes g n ≡ stream_bytes g 0 n
whole_fill g n whole =
    let same : words_of n ≡ n = omega (arith, whole) in
    ap (λ (w : ℕ). take n (stream_bytes g 0 w)) same
    ∙ take_all n (stream_bytes g 0 n) (omega (arith, length-stream g 0 n whole))

-- whole words, and then more
fill-add : (g : ChaCha) (n r : ℕ) → n % 4 ≡ 0
    → fill_bytes g (n + r) ≡ fill_bytes g n ++ take r (stream_bytes g n (words_of r))
fill-add g n r whole =
    let words : words_of (n + r) ≡ n + words_of r = omega (arith, whole) in
    let first : List ℕ = stream_bytes g 0 n in
    let more : List ℕ = stream_bytes g n (words_of r) in
    let split : stream_bytes g 0 (words_of (n + r)) ≡ stream_bytes g 0 n ++ stream_bytes g n (words_of r)
    = ap (stream_bytes g 0) words ∙ stream-add g 0 n (words_of r) refl whole
    ∙ ap (λ (k : ℕ). stream_bytes g 0 n ++ stream_bytes g k (words_of r)) (zero-add n) in
    ap (take (n + r)) split
    ∙ take-add n r (first ++ more)
    ∙ ap₂ (λ (p s : List ℕ). p ++ take r s) (take_at first more n (length-stream g 0 n whole))
    (drop_at first more n (length-stream g 0 n whole))
    ∙ ap (λ (p : List ℕ). p ++ take r more) (sym (whole_fill g n whole))

-- ---- the fill, part by part

abbrev pub IsFilled : ChaCha → ℕ → ℕ → Option (List ℕ) → Option (List ℕ) → Type 0
IsFilled g from n old new = Both old new (λ b c. c ≡ written from (fill_bytes g n) b)

pub filled_none : (g : ChaCha) (from n : ℕ) (old : Option (List ℕ)) → n ≡ 0 → IsFilled g from n old old
unfolding stream_bytes joined
filled_none g from n None none = tt
filled_none g from n (Some b) none =
    sym (ap (λ (k : ℕ). written from (fill_bytes g k) b) none ∙ written_none from b)

pub filled_more : (old middle new : Option (List ℕ)) (g h : ChaCha) (from at n r w m size : ℕ) → n % 4 ≡ 0
    → w ≡ words_of r → at ≡ from + n → m ≡ n + r → at ≤ size → IfSome old (λ b. length b ≡ size)
    → h ≡ advanced g n → IsFilled g from n old middle
    → Both middle new (λ b c. c ≡ written at (take r (stream_bytes h 0 w)) b)
    → IsFilled g from m old new
filled_more None middle new g h from at n r w m size whole words place count inside long moved before part = tt
filled_more (Some a) None new g h from at n r w m size whole words place count inside long moved before part
    = absurd before
filled_more (Some a) (Some b) None g h from at n r w m size whole words place count inside long moved before part
    = absurd part
filled_more (Some a) (Some b) (Some c) g h from at n r w m size whole words place count inside long moved before part =
    let same : at ≡ from + length (fill_bytes g n) = omega (arith, place, length-fill g n) in
    let next : take r (stream_bytes h 0 w) ≡ take r (stream_bytes g n (words_of r))
    = ap₂ (λ (s : ChaCha) (k : ℕ). take r (stream_bytes s 0 k)) moved words
    ∙ ap (take r) (stream_advanced g n (words_of r)) in
    part
    ∙ ap₂ (λ (k : ℕ) (x : List ℕ). written k x b) same next
    ∙ ap (written (from + length (fill_bytes g n)) (take r (stream_bytes g n (words_of r)))) before
    ∙ written_more from (fill_bytes g n) (take r (stream_bytes g n (words_of r))) a
    (omega (arith, same, inside, long))
    ∙ ap (λ (x : List ℕ). written from x a) (sym (fill-add g n r whole))
    ∙ ap (λ (k : ℕ). written from (fill_bytes g k) a) (sym count)

-- the part of the buffer that gives a shorter write
pub words_long : (r d : ℕ) (buffer : List ℕ) → length buffer ≡ 32768 → r < 32768 → d ≡ div_ceil r 4
    → length (take (d * 4) buffer) ≡ words_of r
words_long r d buffer long few count =
    let same : d * 4 ≡ words_of r = omega (arith, count) in
    length-take-le (d * 4) buffer (omega (arith, same, long, few)) ∙ same

pub place_more : (g h k : ChaCha) (n r w m : ℕ) → n % 4 ≡ 0 → w ≡ words_of r → m ≡ n + w → h ≡ advanced g n
    → k ≡ advanced h w → k ≡ advanced g m
place_more g h k n r w m whole words count moved more =
    more ∙ ap (λ (s : ChaCha). advanced s w) moved ∙ advanced_twice g n w whole
    ∙ ap (advanced g) (sym count)

-- ---- a part of it

-- from the word on that byte `at` is in
same_words : (g : ChaCha) (at : ℕ) → stream_bytes g (at / 4 * 4) 68 ≡ stream_bytes g at 68
unfolding stream_bytes
same_words g at =
    let same : at / 4 * 4 / 4 ≡ at / 4 = omega arith in
    ap (λ (k : ℕ). joined (λ i. to_le_bytes w32 (stream_word g (k + i))) (68 / 4)) same

from_word : (g : ChaCha) (q rest : ℕ) → q % 4 ≡ 0
    → drop q (stream_bytes g 0 (q + (68 + rest))) ≡ stream_bytes g q 68 ++ stream_bytes g (q + 68) rest
from_word g q rest whole =
    ap (drop q) (stream-add g 0 q (68 + rest) refl whole)
    ∙ drop_at (stream_bytes g 0 q) (stream_bytes g (0 + q) (68 + rest)) q (length-stream g 0 q whole)
    ∙ ap (λ (k : ℕ). stream_bytes g k (68 + rest)) (zero-add q)
    ∙ stream-add g q 68 rest whole refl

within : (o : ℕ) (xs more : List ℕ) → length xs ≡ 68 → o < 4
    → take 64 (drop o (xs ++ more)) ≡ take 64 (drop o xs)
within o xs more long few =
    ap (take 64) (drop-append-le o xs more (omega (arith, long, few)))
    ∙ take-append-le 64 (drop o xs) more (omega (arith, length-drop o xs, long, few))

part_of : (at n : ℕ) (xs : List ℕ) → at + 64 ≤ n → take 64 (drop at (take n xs)) ≡ take 64 (drop at xs)
part_of at n xs inside =
    let cut : n ≡ at + (n - at) = omega (arith, inside) in
    ap (λ (k : ℕ). take 64 (drop at (take k xs))) cut
    ∙ ap (take 64) (drop-take at (n - at) xs)
    ∙ take-take 64 (n - at) (drop at xs) (omega (arith, inside))

-- 64 bytes lie in 17 words
pub part_of_fill : (g : ChaCha) (at n : ℕ) → at + 68 ≤ n
    → take 64 (drop (at % 4) (stream_bytes g at 68)) ≡ take 64 (drop at (fill_bytes g n))
part_of_fill g at n inside =
    let q : ℕ = at / 4 * 4 in
    let rest : ℕ = words_of n - (at / 4 * 4 + 68) in
    let all : words_of n ≡ at / 4 * 4 + (68 + (words_of n - (at / 4 * 4 + 68))) = omega (arith, inside) in
    let place : at ≡ at / 4 * 4 + at % 4 = omega arith in
    let whole : at / 4 * 4 % 4 ≡ 0 = omega arith in
    sym
    (part_of at n (stream_bytes g 0 (words_of n)) (omega (arith, inside))
    ∙ ap₂ (λ (i k : ℕ). take 64 (drop i (stream_bytes g 0 k))) place all
    ∙ ap (take 64) (sym (drop-drop (at % 4) q (stream_bytes g 0 (q + (68 + rest)))))
    ∙ ap (λ (xs : List ℕ). take 64 (drop (at % 4) xs)) (from_word g q rest whole)
    ∙ within (at % 4) (stream_bytes g q 68) (stream_bytes g (q + 68) rest) (length-stream g q 68 refl) (omega arith)
    ∙ ap (λ (xs : List ℕ). take 64 (drop (at % 4) xs)) (same_words g at))
