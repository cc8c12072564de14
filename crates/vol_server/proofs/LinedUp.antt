-- The works of all threads, one by one: what is listed of them, and what waits.
use Rattle.std.proofs.Common.{◌≡◌, List, [], ◌∷◌, ◌++◌, sym, ap, subst, ◌∙◌, append_assoc, append-nil, map, All}
use Rattle.std.specs.List.{flat_map}
use Rattle.std.proofs.lemmas.Grind.{flat_map-append}
use Rattle.std.proofs.lemmas.List.Folds.{flat_map-map}
use Rattle.std.proofs.lemmas.List.Elements.{All-cons, All-head, All-nil, All-tail}

module _ {X Y : Type 0} (f : X → List Y) where
  -- one more at the end
  pub one_flat : (xs new : List X) (x : X) → new ≡ xs ++ x ∷ [] → flat_map f new ≡ flat_map f xs ++ f x
  one_flat xs new x pushed =
      ap (flat_map f) pushed ∙ flat_map-append f xs (x ∷ []) ∙ ap (λ (l : List Y). flat_map f xs ++ l) (append-nil (f x))

  pub one_listed_flat : (xs new : List X) (x : X) (old rest all : List Y) → new ≡ xs ++ x ∷ [] → old ≡ f x ++ rest → flat_map f xs ++ old ≡ all
      → flat_map f new ++ rest ≡ all
  one_listed_flat xs new x old rest all pushed next is =
      ap (λ (l : List Y). l ++ rest) (one_flat xs new x pushed) ∙ append_assoc (flat_map f xs) (f x) rest
      ∙ ap (λ (l : List Y). flat_map f xs ++ l) (sym next) ∙ is

  pub same_flat : (xs new : List X) (x : X) → new ≡ xs ++ x ∷ [] → f x ≡ [] → flat_map f new ≡ flat_map f xs
  same_flat xs new x pushed none =
      one_flat xs new x pushed ∙ ap (λ (l : List Y). flat_map f xs ++ l) none ∙ append-nil (flat_map f xs)

  pub none_listed_flat : (xs : List X) (rest all : List Y) → xs ≡ [] → rest ≡ all → flat_map f xs ++ rest ≡ all
  none_listed_flat xs rest all none is = ap (λ (l : List X). flat_map f l ++ rest) none ∙ is

  -- what is listed of the parts of things is listed of the things
  pub of_parts : {Z : Type 0} (part : Z → X) (zs : List Z) (xs : List X) (ys : List Y) → map part zs ≡ xs → flat_map f xs ≡ ys
      → flat_map (λ z. f (part z)) zs ≡ ys
  of_parts part zs xs ys parts is = sym (flat_map-map f part zs) ∙ ap (flat_map f) parts ∙ is

-- a fact of all parts is one of all things
parts_all : {Z X : Type 0} (P : X → Type 0) (part : Z → X) (zs : List Z) → All P (map part zs) → All (λ z. P (part z)) zs
parts_all P part [] all = All-nil (λ z. P (part z))
parts_all P part (z ∷ zs) all =
    All-cons (λ x. P (part x)) z zs (All-head P (part z) (map part zs) all) (parts_all P part zs (All-tail P (part z) (map part zs) all))

pub all_parts : {Z X : Type 0} (P : X → Type 0) (part : Z → X) (begun zs : List Z) (xs : List X) → begun ≡ zs → map part zs ≡ xs → All P xs
    → All (λ z. P (part z)) begun
all_parts {Z} P part begun zs xs is parts all =
    subst (λ (l : List Z). All (λ z. P (part z)) l) (sym is) (parts_all P part zs (subst (All P) (sym parts) all))

module _ {X : Type 0} (P : X → Type 0) where
  pub first_of : (old rest : List X) (x : X) → old ≡ x ∷ rest → All P old → P x
  first_of old rest x is all = All-head P x rest (subst (All P) is all)

  pub rest_of : (old rest : List X) (x : X) → old ≡ x ∷ rest → All P old → All P rest
  rest_of old rest x is all = All-tail P x rest (subst (All P) is all)
