-- The first element that passes a test, in one list and in several lists that are joined.
use Rattle.std.proofs.Common.{◌≡◌, ℕ, zero, suc, ◌<◌, Bool, true, false, List, [], ◌∷◌, ◌++◌, length, get_or, Some, None, refl, sym, ap, ◌∙◌, subst, arith}
use Rattle.std.specs.Prelude.{find, slice_get, unwrap_or, if◌then◌else◌}
use Rattle.std.specs.List.{flat_map}
use Rattle.algorithm_names.specs.Algorithms.{all_algorithms, number_of}
use Rattle.algorithm_names.specs.declared.algorithm.Algorithm.{Algorithm}
use Rattle.header_try.proofs.Finding.{algorithm_at, found_in_first, found_in_second}

some_same : {X : Type 0} {x y : X} → Some x ≡ Some y → x ≡ y
some_same {X} {x} {y} e = ap (λ r. unwrap_or r x) e

module _ {X : Type 0} (t : X → Bool) where
  -- what was found passes
  pub found_passes : (xs : List X) (a : X) → find t xs ≡ Some a → t a ≡ true
  found_passes [] a found = absurd (cc found)
  found_passes (y ∷ ys) a found = by_test (t y) refl found (λ later. found_passes ys a later)
    where
      by_test : (b : Bool) → t y ≡ b → (if b then Some y else find t ys) ≡ Some a → (find t ys ≡ Some a → t a ≡ true)
          → t a ≡ true
      by_test true e h rest = ap t (sym (some_same h)) ∙ e
      by_test false e h rest = rest h

  first_fails : (y : X) (ys : List X) → find t (y ∷ ys) ≡ None → (t y ≡ false) × (find t ys ≡ None)
  first_fails y ys none = by_test (t y) refl none
    where
      by_test : (b : Bool) → t y ≡ b → (if b then Some y else find t ys) ≡ None → (t y ≡ false) × (find t ys ≡ None)
      by_test true e h = absurd (cc h)
      by_test false e h = (e, h)

  -- if none was found, none passes
  pub fails_at : (xs : List X) (i : ℕ) (a : X) → find t xs ≡ None → slice_get xs i ≡ Some a → t a ≡ false
  fails_at [] i a none at = absurd (cc at)
  fails_at (y ∷ ys) zero a none at = ap t (sym (some_same at)) ∙ (first_fails y ys none).0
  fails_at (y ∷ ys) (suc i) a none at = fails_at ys i a (first_fails y ys none).1 at

-- no algorithm passes
pub all_fail : (t : Algorithm → Bool) → find t all_algorithms ≡ None → (a : Algorithm) → t a ≡ false
all_fail t none a = fails_at t all_algorithms (number_of a) a none (algorithm_at a)

module _ {E C : Type 0} (t : C → Bool) (f : E → List C) where
  -- one list has it, and those before have none
  pub found_in_one : (es : List E) (k : ℕ) (e : E) (c : C) → k < length es → ((d : E) → get_or es k d ≡ e)
      → ((j : ℕ) (d : E) → j < k → find t (f (get_or es j d)) ≡ None) → find t (f e) ≡ Some c
      → find t (flat_map f es) ≡ Some c
  found_in_one [] k e c below is before found = absurd (omega (arith, below))
  found_in_one (x ∷ xs) zero e c below is before found =
      found_in_first t (f x) (flat_map f xs) c (ap (λ (z : E). find t (f z)) (is e) ∙ found)
  found_in_one (x ∷ xs) (suc k) e c below is before found =
      found_in_second t (f x) (flat_map f xs) (before 0 x (omega arith))
      ∙ found_in_one xs k e c (omega (arith, below)) is (λ j d lt. before (suc j) d (omega (arith, lt))) found

  pub found_in_none : (es : List E) → ((j : ℕ) (d : E) → j < length es → find t (f (get_or es j d)) ≡ None)
      → find t (flat_map f es) ≡ None
  found_in_none [] none = refl
  found_in_none (x ∷ xs) none =
      found_in_second t (f x) (flat_map f xs) (none 0 x (omega arith))
      ∙ found_in_none xs (λ j d lt. none (suc j) d (omega (arith, lt)))
