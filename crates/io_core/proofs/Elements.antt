-- Elements of lists: of a list mapped, of two lists joined, and of a list with one element more.
use Rattle.std.proofs.Common.{◌≡◌, ◌⊎◌, inl, inr, zero, suc, List, [], ◌∷◌, ◌++◌, get_or, refl, sym, ap, subst, arith}
use Rattle.std.specs.Prelude.{map}
use Rattle.std.specs.List.{All, Contains}
use Rattle.std.proofs.lemmas.List.Elements.{All-contains_itself}
use Rattle.range_book.specs.Book.{IsAdded}
use Rattle.range_book.specs.declared.reserved.Reserved.{Reserved}

module _ {X : Type 0} where
  pub at_element : (P : X → Type 0) (xs : List X) (x : X) → All P xs → Contains xs x → P x
  at_element P xs x all c = subst P c.2 (all c.0 x c.1)

  pub all_from_elements : (P : X → Type 0) (xs : List X) → ((x : X) → Contains xs x → P x) → All P xs
  all_from_elements P xs each k d within = each (get_or xs k d) (All-contains_itself xs k d within)

  pub later_element : (y : X) (xs : List X) (x : X) → Contains xs x → Contains (y ∷ xs) x
  later_element y xs x c = (suc c.0, omega (arith, c.1), c.2)

  pub first_element : (x : X) (xs : List X) → Contains (x ∷ xs) x
  first_element x xs = (0, omega arith, refl)

  pub element_left : (xs ys : List X) (x : X) → Contains xs x → Contains (xs ++ ys) x
  element_left [] ys x c = absurd (omega (arith, c.1))
  element_left (y ∷ xs) ys x (zero, within, is) = (0, omega arith, is)
  element_left (y ∷ xs) ys x (suc k, within, is) = later_element y (xs ++ ys) x (element_left xs ys x (k, omega arith, is))

  pub element_right : (xs ys : List X) (x : X) → Contains ys x → Contains (xs ++ ys) x
  element_right [] ys x c = c
  element_right (y ∷ xs) ys x c = later_element y (xs ++ ys) x (element_right xs ys x c)

  pub element_of_either : (xs ys : List X) (x : X) → Contains (xs ++ ys) x → Contains xs x ⊎ Contains ys x
  element_of_either [] ys x c = inr c
  element_of_either (y ∷ xs) ys x (zero, within, is) = inl (0, omega arith, is)
  element_of_either (y ∷ xs) ys x (suc k, within, is) = elim (element_of_either xs ys x (k, omega arith, is)) [
    | inl c ↦ inl (later_element y xs x c)
    | inr c ↦ inr c
  ]

  pub the_element : (y x : X) → Contains (y ∷ []) x → y ≡ x
  the_element y x (zero, within, is) = is
  the_element y x (suc k, within, is) = absurd (omega arith)

module _ {X Y : Type 0} (f : X → Y) where
  pub mapped_element : (xs : List X) (x : X) → Contains xs x → Contains (map f xs) (f x)
  mapped_element [] x c = absurd (omega (arith, c.1))
  mapped_element (y ∷ xs) x (zero, within, is) = (0, omega arith, ap f is)
  mapped_element (y ∷ xs) x (suc k, within, is) = later_element (f y) (map f xs) (f x) (mapped_element xs x (k, omega arith, is))

  pub unmapped_element : (xs : List X) (y : Y) → Contains (map f xs) y → (x : X) × Contains xs x × (f x ≡ y)
  unmapped_element [] y c = absurd (omega (arith, c.1))
  unmapped_element (x ∷ xs) y (zero, within, is) = (x, first_element x xs, is)
  unmapped_element (x ∷ xs) y (suc k, within, is) =
      let c = unmapped_element xs y (k, omega arith, is) in (c.0, later_element x xs c.0 c.1, c.2)

  pub all_mapped : (P : Y → Type 0) (xs : List X) → All (λ x. P (f x)) xs → All P (map f xs)
  all_mapped P xs all = all_from_elements P (map f xs)
      (λ y c. let u = unmapped_element xs y c in subst P u.2 (at_element (λ x. P (f x)) xs u.0 all u.1))

  pub all_unmapped : (P : Y → Type 0) (xs : List X) → All P (map f xs) → All (λ x. P (f x)) xs
  all_unmapped P xs all = all_from_elements (λ x. P (f x)) xs
      (λ x c. at_element P (map f xs) (f x) all (mapped_element xs x c))

-- the elements of a list of ranges with one more
pub added_element : (r : Reserved) (less more : List Reserved) → IsAdded r less more → (x : Reserved)
    → Contains more x → Contains less x ⊎ (r ≡ x)
added_element r less more added x c =
    elim (element_of_either added.below (r ∷ added.above) x (subst (λ l. Contains l x) added.with_it c)) [
      | inl d ↦ inl (subst (λ l. Contains l x) (sym added.without) (element_left added.below added.above x d))
      | inr d ↦ elim (element_of_either (r ∷ []) added.above x d) [
        | inl e ↦ inr (the_element r x e)
        | inr e ↦ inl (subst (λ l. Contains l x) (sym added.without) (element_right added.below added.above x e))
      ]
    ]

pub kept_element : (r : Reserved) (less more : List Reserved) → IsAdded r less more → (x : Reserved)
    → Contains less x → Contains more x
kept_element r less more added x c =
    subst (λ l. Contains l x) (sym added.with_it)
    (elim (element_of_either added.below added.above x (subst (λ l. Contains l x) added.without c)) [
      | inl d ↦ element_left added.below (r ∷ added.above) x d
      | inr d ↦ element_right added.below (r ∷ added.above) x (later_element r added.above x d)
    ])

pub new_element : (r : Reserved) (less more : List Reserved) → IsAdded r less more → Contains more r
new_element r less more added =
    subst (λ l. Contains l r) (sym added.with_it) (element_right added.below (r ∷ added.above) r (first_element r added.above))
