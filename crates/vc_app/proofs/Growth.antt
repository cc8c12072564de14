-- Output that grows part by part.
--
-- Wherever it stops, a prefix of what is to be written was added: parts that were written whole, then a prefix of the
-- part that was not.
use Rattle.std.proofs.Common.{◌≡◌, ℕ, ◌+◌, ◌-◌, List, ◌++◌, length, take, drop, min, Option, Some, None, Result, Ok, Err, append_assoc, refl, sym, ap, ◌∙◌, subst, arith}
use Rattle.std.specs.Prelude.{OnOk}
use Rattle.std.proofs.Math.Seq.{take-add}
use Rattle.std.proofs.lemmas.List.{append-nil, take_rest, take_at, drop_at, take_min, take-append-le}
use Rattle.vc_outside.specs.Told.{Grows, GrowsByFront}

-- one part after another
pub grows_twice : (a b c : Option (List ℕ)) (xs ys : List ℕ) → Grows a b xs → Grows b c ys → Grows a c (xs ++ ys)
grows_twice None b c xs ys f g = tt
grows_twice (Some a) None c xs ys f g = absurd f
grows_twice (Some a) (Some b) None xs ys f g = absurd g
grows_twice (Some a) (Some b) (Some c) xs ys f g = g ∙ ap (λ (s : List ℕ). s ++ ys) f ∙ append_assoc a xs ys

-- a front up to i, then n more of the rest, which is a slice to the end
pub grows_on : (a b c : Option (List ℕ)) (i n : ℕ) (xs : List ℕ) → Grows a b (take i xs) → Grows b c (take n (take (length xs - i) (drop i xs))) → Grows a c (take (i + n) xs)
grows_on a b c i n xs f g =
    subst (λ (p : List ℕ). Grows a c p) (sym (take-add i n xs))
    (grows_twice a b c (take i xs) (take n (drop i xs)) f (subst (λ (p : List ℕ). Grows b c (take n p)) (take_rest xs i) g))

-- nothing is a front
pub front_of_none : (a : Option (List ℕ)) (xs : List ℕ) → GrowsByFront a a xs
front_of_none None xs = (0, tt)
front_of_none (Some a) xs = (0, sym (append-nil a))

-- a prefix of a list is a prefix of what goes on with it
front_more : (n : ℕ) (xs ys zs : List ℕ) → xs ++ take (min n (length ys)) ys ≡ take (length xs + min n (length ys)) (xs ++ (ys ++ zs))
front_more n xs ys zs =
    let m : ℕ = min n (length ys) in
    sym (take-add (length xs) m (xs ++ (ys ++ zs))
    ∙ ap (λ (p : List ℕ). p ++ take m (drop (length xs) (xs ++ (ys ++ zs)))) (take_at xs (ys ++ zs) (length xs) refl)
    ∙ ap (λ (p : List ℕ). xs ++ take m p) (drop_at xs (ys ++ zs) (length xs) refl)
    ∙ ap (λ (p : List ℕ). xs ++ p) (take-append-le m ys zs (omega arith)))

-- a part written whole, and a prefix of the next one
pub front_after : (a b c : Option (List ℕ)) (xs ys zs : List ℕ) → Grows a b xs → GrowsByFront b c ys → GrowsByFront a c (xs ++ (ys ++ zs))
front_after a b c xs ys zs f g = (
  length xs + min g.0 (length ys),
  subst (λ (p : List ℕ). Grows a c p) (front_more g.0 xs ys zs)
      (grows_twice a b c xs (take (min g.0 (length ys)) ys) f
      (subst (λ (p : List ℕ). Grows b c p) (sym (take_min g.0 ys)) g.1)),
)

-- what follows from a fact of an Ok
pub on_ok : {T E : Type 0} (r : Result T E) (P Q : Type 0) → (P → Q) → OnOk r P → OnOk r Q
on_ok (Ok x) P Q f h = f h
on_ok (Err e) P Q f h = tt
