-- The fill, part by part: a container's first bytes are those of the stream, and then some more.
use Rattle.std.proofs.Common.{◌≡◌, ℕ, ◌+◌, ◌≤◌, ◌%◌, List, ◌++◌, length, take, Option, Some, None, refl, sym, ap, ap₂, ◌∙◌, arith, zero-add, length-take-le}
use Rattle.std.specs.Prelude.{IfSome}
use Rattle.std.proofs.lemmas.List.{take_all}
use Rattle.vc_base.specs.Bytes.{joined}
use Rattle.rand_chacha.specs.ChaCha.{ChaCha}
use Rattle.vc_outside.specs.Told.{Both, written}
use Rattle.volume_format.specs.Stream.{advanced, stream_bytes}
use Rattle.volume_format.proofs.Draws.{advanced_twice, length-stream, stream-add, stream_advanced}
use Rattle.volume_format.proofs.Writes.{take_through}

-- the first n bytes are the first n bytes of the stream
abbrev pub IsFilled : ChaCha → ℕ → Option (List ℕ) → Option (List ℕ) → Type 0
IsFilled g n old new = Both old new (λ _ b. take n b ≡ stream_bytes g 0 n)

pub filled_none : (old : Option (List ℕ)) (g : ChaCha) → IsFilled g 0 old old
unfolding stream_bytes joined
filled_none None g = tt
filled_none (Some a) g = refl

-- n bytes more
pub filled_more : (a b c : Option (List ℕ)) (g h : ChaCha) (at m n size : ℕ) → at % 4 ≡ 0
    → n % 4 ≡ 0 → m ≡ n → at ≤ size
    → IfSome b (λ x. length x ≡ size) → h ≡ advanced g at → IsFilled g at a b
    → Both b c (λ x y. y ≡ written at (stream_bytes h 0 m) x)
    → IsFilled g (at + n) a c
filled_more None b c g h at m n size place whole same inside long moved before part = tt
filled_more (Some a) None c g h at m n size place whole same inside long moved before part
    = absurd before
filled_more (Some a) (Some b) None g h at m n size place whole same inside long moved before part
    = absurd part
filled_more (Some a) (Some b)
    (Some c) g h at m n size place whole same inside long moved before part =
    let next : stream_bytes h 0 n ≡ stream_bytes g (0 + at) n
    = ap (λ (s : ChaCha). stream_bytes s 0 n) moved ∙ stream_advanced g at n
    ∙ ap (λ (k : ℕ). stream_bytes g k n) (sym (zero-add at)) in
    ap (take (at + n)) (part ∙ ap (λ (k : ℕ). written at (stream_bytes h 0 k) b) same)
    ∙ take_through at n (stream_bytes h 0 n) b (length-stream h 0 n whole)
    (omega (arith, inside, long))
    ∙ ap₂ ◌++◌ before next
    ∙ sym (stream-add g 0 at n refl place)

pub filled_all : (a b : Option (List ℕ)) (g : ChaCha) (at size : ℕ) → at ≡ size
    → IfSome b (λ x. length x ≡ size)
    → IsFilled g at a b → Both a b (λ _ x. x ≡ stream_bytes g 0 size)
filled_all None b g at size all long before = tt
filled_all (Some a) None g at size all long before = absurd before
filled_all (Some a) (Some b) g at size all long before =
    sym (take_all at b (omega (arith, all, long))) ∙ before ∙ ap (stream_bytes g 0) all

pub place_more : (g h k : ChaCha) (at m n : ℕ) → at % 4 ≡ 0 → m ≡ n → h ≡ advanced g at
    → k ≡ advanced h m → k ≡ advanced g (at + n)
place_more g h k at m n place same moved more =
    more ∙ ap₂ advanced moved same ∙ advanced_twice g at n place

-- the part of the buffer that is filled
pub part_length : (n : ℕ) (buffer : List ℕ) → length buffer ≡ 65536 → n ≤ 65536
    → length (take n buffer) ≡ n
part_length n buffer long fits = length-take-le n buffer (omega (arith, long, fits))
