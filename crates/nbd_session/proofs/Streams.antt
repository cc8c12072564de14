-- Bytes taken of a source and given to a sink, part by part.
use Rattle.std.proofs.Common.{◌≡◌, ◌≤◌, ◌<◌, ℕ, ◌+◌, ◌-◌, List, [], ◌++◌, length, take, drop, Option, Some, None, IfSome, IsSome, append_assoc, length-append, refl, sym, ap, ◌∙◌, subst, arith}
use Rattle.std.proofs.Math.Seq.{take-add}
use Rattle.std.proofs.lemmas.List.{append-nil, drop_at, length-take-le, take-append-le, take_at, take_rest}
use Rattle.std.proofs.lemmas.Bool.{false≢true}
use borrow.Rule.Slice.PartMut.{post_of, put_mid}
use Rattle.vc_outside.specs.Told.{Grows, Shrinks}
use Rattle.nbd_session.specs.declared.input.Stop.{Stop}
use Rattle.nbd_session.specs.declared.input.Stop.TheVariants.{Ended}
use Rattle.nbd_session.specs.Taken.{Passes, Skips}

-- one part after another
pub grows_twice : (a b c : Option (List ℕ)) (xs ys : List ℕ) → Grows a b xs → Grows b c ys → Grows a c (xs ++ ys)
grows_twice None b c xs ys f g = tt
grows_twice (Some a) None c xs ys f g = absurd f
grows_twice (Some a) (Some b) None xs ys f g = absurd g
grows_twice (Some a) (Some b) (Some c) xs ys f g = g ∙ ap (λ (s : List ℕ). s ++ ys) f ∙ append_assoc a xs ys

pub shrinks_twice : (a b c : Option (List ℕ)) (xs ys : List ℕ) → Shrinks a b xs → Shrinks b c ys → Shrinks a c (xs ++ ys)
shrinks_twice None b c xs ys f g = tt
shrinks_twice (Some a) None c xs ys f g = absurd f
shrinks_twice (Some a) (Some b) None xs ys f g = absurd g
shrinks_twice (Some a) (Some b) (Some c) xs ys f g = f ∙ ap (λ (s : List ℕ). xs ++ s) g ∙ sym (append_assoc xs ys c)

-- nothing yet
pub grows_none : (a : Option (List ℕ)) → Grows a a []
grows_none None = tt
grows_none (Some a) = sym (append-nil a)

pub shrinks_none : (a : Option (List ℕ)) → Shrinks a a []
shrinks_none None = tt
shrinks_none (Some a) = refl

-- a prefix up to i, then n more of the rest, which is a slice to the end
pub grows_on : (a b c : Option (List ℕ)) (i n : ℕ) (xs : List ℕ) → Grows a b (take i xs) → Grows b c (take n (take (length xs - i) (drop i xs))) → Grows a c (take (i + n) xs)
grows_on a b c i n xs f g =
    subst (λ (p : List ℕ). Grows a c p) (sym (take-add i n xs))
    (grows_twice a b c (take i xs) (take n (drop i xs)) f (subst (λ (p : List ℕ). Grows b c (take n p)) (take_rest xs i) g))

-- what is left ends with the bytes of the second part
pub ended_on : (a b : Option (List ℕ)) (xs ys : List ℕ) → Shrinks a b xs → IfSome b (λ s. s ≡ ys) → IfSome a (λ s. s ≡ xs ++ ys)
ended_on None b xs ys f ends = tt
ended_on (Some a) None xs ys f ends = absurd f
ended_on (Some a) (Some b) xs ys f ends = f ∙ ap (λ (s : List ℕ). xs ++ s) ends

pub ended_here : (a b : Option (List ℕ)) (xs : List ℕ) → Shrinks a b xs → IfSome b (λ s. s ≡ []) → IfSome a (λ s. s ≡ xs)
ended_here None b xs f ends = tt
ended_here (Some a) None xs f ends = absurd f
ended_here (Some a) (Some b) xs f ends = f ∙ ap (λ (s : List ℕ). xs ++ s) ends ∙ append-nil xs

-- a part read into a buffer after its first i bytes
pub take-put_mid_after : (i n k : ℕ) (buf part : List ℕ) → i ≤ length buf → n ≤ length part → take (i + n) (put_mid i k buf part) ≡ take i buf ++ take n part
take-put_mid_after i n k buf part before within =
    let after : List ℕ = part ++ post_of i k buf in
    let here : length (take i buf) ≡ i = length-take-le i buf before in
    take-add i n (take i buf ++ after)
    ∙ ap (λ (p : List ℕ). p ++ take n (drop i (take i buf ++ after))) (take_at (take i buf) after i here)
    ∙ ap (λ (p : List ℕ). take i buf ++ take n p) (drop_at (take i buf) after i here)
    ∙ ap (λ (p : List ℕ). take i buf ++ p) (take-append-le n part (post_of i k buf) within)

pub put_mid-fits : (i n k : ℕ) (buf part : List ℕ) → i ≤ length buf → n ≤ length part → i + n ≤ length (put_mid i k buf part)
put_mid-fits i n k buf part before within =
    let after : List ℕ = part ++ post_of i k buf in
    omega (arith, length-take-le i buf before, length-append (take i buf) after, length-append part (post_of i k buf), within)

pub shrinks_on : (a b c : Option (List ℕ)) (i n k : ℕ) (buf part : List ℕ) → i ≤ length buf → n ≤ length part
    → Shrinks a b (take i buf) → Shrinks b c (take n part) → Shrinks a c (take (i + n) (put_mid i k buf part))
shrinks_on a b c i n k buf part before within f g =
    subst (λ (p : List ℕ). Shrinks a c p) (sym (take-put_mid_after i n k buf part before within)) (shrinks_twice a b c (take i buf) (take n part) f g)

-- skipping stops
passes : (n k left part count : ℕ) (stop : Option Stop) → IsSome stop → k + left ≡ n → part ≤ left → count < part → Passes n (k + count) stop
passes n k left part count None stops all here few = absurd (false≢true stops)
passes n k left part count (Some stop) stops all here few = omega arith

module _ (a b c : Option (List ℕ)) (n left part count : ℕ) (xs buf : List ℕ)
    (f : Shrinks a b xs) (all : length xs + left ≡ n) (here : part ≤ left) (within : count ≤ part) (room : count ≤ length buf)
    (g : Shrinks b c (take count buf)) where
  length-more : length (xs ++ take count buf) ≡ length xs + count
  length-more = length-append xs (take count buf) ∙ ap (λ (k : ℕ). length xs + k) (length-take-le count buf room)

  pub more_skipped : (ys : List ℕ) × Shrinks a c ys × (length ys + (left - count) ≡ n)
  more_skipped = (xs ++ take count buf, shrinks_twice a b c xs (take count buf) f g, omega (arith, length-more, all, here, within))

  pub skips_on : (stop : Option Stop) → IsSome stop → count < part → (stop ≡ Some Ended → IfSome b (λ s. s ≡ take count buf)) → Skips a c n stop
  skips_on stop stops few ends = record {
    bytes = xs ++ take count buf;
    given = shrinks_twice a b c xs (take count buf) f g;
    count = subst (λ (k : ℕ). Passes n k stop) (sym length-more) (passes n (length xs) left part count stop stops all here few);
    ended = λ is. ended_on a b xs (take count buf) f (ends is);
  }
