-- Lists that are read at a place, and what is left of them.
use Rattle.std.proofs.Common.{◌≡◌, ◌⊎◌, ◌<◌, ◌≤◌, ℕ, zero, suc, List, [], ◌∷◌, ◌++◌, length, drop, set, refl, sym, ap, ◌∙◌, inl, inr, ⊎_elim, arith}
use mathlib.Core.Option.{some, some-injective, some-ne-none}
use lib.ListN.{get_elem?}

module _ {A : Type 0} where
  -- an element of a list with one more is one of the list, or the last
  pub snoc_cases : (l : List A) (a b : A) (j : ℕ) → get_elem? (l ++ a ∷ []) j ≡ some b
      → (get_elem? l j ≡ some b) ⊎ ((j ≡ length l) × (a ≡ b))
  snoc_cases [] a b zero e = inr (refl, some-injective a b e)
  snoc_cases [] a b (suc j) e = absurd (some-ne-none b (sym e))
  snoc_cases (x ∷ xs) a b zero e = inl e
  snoc_cases (x ∷ xs) a b (suc j) e =
      ⊎_elim (λ t. inl t) (λ t. inr (ap suc t.0, t.1)) (snoc_cases xs a b j e)

  pub inside : (l : List A) (j : ℕ) (b : A) → get_elem? l j ≡ some b → j < length l
  inside [] j b e = absurd (some-ne-none b (sym e))
  inside (x ∷ xs) zero b e = omega arith
  inside (x ∷ xs) (suc j) b e = let h = inside xs j b e in omega arith

  pub drop_longer : (l m : List A) (n : ℕ) → n ≤ length l → drop n (l ++ m) ≡ drop n l ++ m
  drop_longer l m zero h = refl
  drop_longer [] m (suc n) h = absurd (omega arith)
  drop_longer (x ∷ xs) m (suc n) h = drop_longer xs m n (omega arith)

  first_left : (l : List A) (n : ℕ) → get_elem? (drop n l) 0 ≡ get_elem? l n
  first_left l zero = refl
  first_left [] (suc n) = refl
  first_left (x ∷ xs) (suc n) = first_left xs n

  one_less : (l : List A) (n : ℕ) → drop 1 (drop n l) ≡ drop (suc n) l
  one_less l zero = refl
  one_less [] (suc n) = refl
  one_less (x ∷ xs) (suc n) = one_less xs n

  -- the first element of what is left, and what is left without it
  pub next_is : (l rest : List A) (n : ℕ) (a : A) → drop n l ≡ a ∷ rest → get_elem? l n ≡ some a
  next_is l rest n a e = sym (first_left l n) ∙ ap (λ (t : List A). get_elem? t 0) e

  pub next_gone : (l rest : List A) (n : ℕ) (a : A) → drop n l ≡ a ∷ rest → drop (suc n) l ≡ rest
  next_gone l rest n a e = sym (one_less l n) ∙ ap (λ (t : List A). drop 1 t) e

  pub same_set : (l : List A) (i : ℕ) (v w : A) → get_elem? l i ≡ some v → get_elem? (set l i w) i ≡ some w
  same_set [] i v w e = absurd (some-ne-none v (sym e))
  same_set (x ∷ xs) zero v w e = refl
  same_set (x ∷ xs) (suc i) v w e = same_set xs i v w e
