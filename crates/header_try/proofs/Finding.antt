-- The first element that passes a test.
use Rattle.std.proofs.Common.{◌≡◌, ℕ, zero, suc, Bool, true, false, List, [], ◌∷◌, ◌++◌, take, Some, None, refl, sym, ap, ◌∙◌}
use Rattle.std.specs.Prelude.{find, map, option_map, slice_get, unwrap_or, if◌then◌else◌}
use Rattle.std.specs.Option.{option_or}
use Rattle.std.proofs.lemmas.List.Folds.{find-append}
use Rattle.algorithm_names.specs.Algorithms.{all_algorithms, number_of}
use Rattle.algorithm_names.specs.declared.algorithm.Algorithm.{Algorithm}
use Rattle.algorithm_names.specs.declared.algorithm.Algorithm.TheVariants.{Aes, Serpent, Twofish, AesTwofish, AesTwofishSerpent, SerpentAes, SerpentTwofishAes, TwofishSerpent}

some_same : {X : Type 0} {x y : X} → Some x ≡ Some y → x ≡ y
some_same {X} {x} {y} e = ap (λ r. unwrap_or r x) e

module _ {X : Type 0} (t : X → Bool) where
  -- none passes, so neither the first nor one of the others
  first_fails : (y : X) (ys : List X) → find t (y ∷ ys) ≡ None → (t y ≡ false) × (find t ys ≡ None)
  first_fails y ys none = by_test (t y) refl none
    where
      by_test : (b : Bool) → t y ≡ b → (if b then Some y else find t ys) ≡ None → (t y ≡ false) × (find t ys ≡ None)
      by_test true e h = absurd (cc h)
      by_test false e h = (e, h)

  -- it stands in the first list, or else in the second
  pub found_in_first : (xs ys : List X) (x : X) → find t xs ≡ Some x → find t (xs ++ ys) ≡ Some x
  found_in_first xs ys x found = find-append t xs ys ∙ ap (λ r. option_or r (find t ys)) found

  pub found_in_second : (xs ys : List X) → find t xs ≡ None → find t (xs ++ ys) ≡ find t ys
  found_in_second xs ys none = find-append t xs ys ∙ ap (λ r. option_or r (find t ys)) none

  -- the element at place i, where none before it passes
  pub found_here : (xs : List X) (i : ℕ) (x : X) → find t (take i xs) ≡ None → slice_get xs i ≡ Some x → t x ≡ true
      → find t xs ≡ Some x
  found_here [] i x none at passes = absurd (cc at)
  found_here (y ∷ xs) zero x none at passes =
      let same : y ≡ x = some_same at in
      ap (λ b. if b then Some y else find t xs) (ap t same ∙ passes) ∙ ap Some same
  found_here (y ∷ xs) (suc i) x none at passes =
      let fails = first_fails y (take i xs) none in
      ap (λ b. if b then Some y else find t xs) fails.0 ∙ found_here xs i x fails.1 at passes

  pub not_yet : (xs : List X) (i : ℕ) (x : X) → find t (take i xs) ≡ None → slice_get xs i ≡ Some x → t x ≡ false
      → find t (take (suc i) xs) ≡ None
  not_yet [] i x none at fails = absurd (cc at)
  not_yet (y ∷ xs) zero x none at fails =
      ap (λ b. if b then Some y else find t (take 0 xs)) (ap t (some_same at) ∙ fails)
  not_yet (y ∷ xs) (suc i) x none at fails =
      let first = first_fails y (take i xs) none in
      ap (λ b. if b then Some y else find t (take (suc i) xs)) first.0 ∙ not_yet xs i x first.1 at fails

-- tests that agree on what f makes
pub found_alike : {A X : Type 0} (t t' : X → Bool) (f : A → X) (xs : List A) → ((x : A) → t (f x) ≡ t' (f x))
    → find t (map f xs) ≡ find t' (map f xs)
found_alike t t' f [] same = refl
found_alike t t' f (x ∷ xs) same =
    ap (λ b. if b then Some (f x) else find t (map f xs)) (same x)
    ∙ ap (λ r. if t' (f x) then Some (f x) else r) (found_alike t t' f xs same)

-- what a choice becomes
either : {A B : Type 0} (g : A → B) (b : Bool) (x y : A) → g (if b then x else y) ≡ (if b then g x else g y)
either g true x y = refl
either g false x y = refl

pub find-map : {A X : Type 0} (t : X → Bool) (f : A → X) (xs : List A)
    → find t (map f xs) ≡ option_map f (find (λ x. t (f x)) xs)
find-map t f [] = refl
find-map t f (x ∷ xs) =
    ap (λ r. if t (f x) then Some (f x) else r) (find-map t f xs)
    ∙ sym (either (λ r. option_map f r) (t (f x)) (Some x) (find (λ x. t (f x)) xs))

-- by the number of an algorithm
pub algorithm_at : (a : Algorithm) → slice_get all_algorithms (number_of a) ≡ Some a
algorithm_at Aes = refl
algorithm_at Serpent = refl
algorithm_at Twofish = refl
algorithm_at AesTwofish = refl
algorithm_at AesTwofishSerpent = refl
algorithm_at SerpentAes = refl
algorithm_at SerpentTwofishAes = refl
algorithm_at TwofishSerpent = refl
