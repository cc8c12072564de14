-- The book has the ranges of the pending writes.
use Rattle.std.proofs.Common.{rules, true, false, Some, None, ◌/◌, ap₂, ◌≡◌, ◌≤◌, ◌↔◌, inl, inr, ℕ, ◌+◌, List, [], ◌∷◌, ◌++◌, Option, Vec, vec_capacity, length, sym, ap, subst, ◌∙◌, arith, length-append}
use Rattle.std.specs.Prelude.{map, is_some, IfSome, IsNone}
use Rattle.std.specs.Global.{Global}
use Rattle.std.specs.List.{All, AllPairs, Contains}
use Rattle.std.proofs.lemmas.List.Quantifiers.{all_pairs_push}
use Rattle.std.proofs.lemmas.List.{map-append}
use Rattle.std.proofs.lemmas.List.Elements.{All-push}
use Rattle.range_book.specs.Book.{AreApart, Book, HasName as HasRangeName, IsAdded, IsFirstToMeet, Meets}
use Rattle.range_book.specs.declared.reserved.Reserved.{Reserved}
use Rattle.vc_layout.specs.declared.geometry.Geometry.{Geometry}
use Rattle.sector_model.specs.Array.{Volume}
use Rattle.sector_model.specs.History.{HasName}
use Rattle.io_core.specs.Laws.Invariant.{IsCore, range_of}
use Rattle.io_core.specs.State.{IsPlacedWrite, Overlaps, volume_of, write_of}
use Rattle.io_core.specs.declared.prepared.Prepared.{Prepared}
use Rattle.io_core.proofs.Elements.{added_element, all_from_elements, all_mapped, all_unmapped, at_element, element_left, element_of_either, element_right, first_element, kept_element, new_element, the_element}

-- a write was met
pub met : (o : Option (ℕ × ℕ)) (first count : ℕ) (rs : List Reserved) → is_some o ≡ true
    → IfSome o (λ name. (r : Reserved) × IsFirstToMeet first count rs r × HasRangeName name.0 name.1 r)
    → (r : Reserved) × Contains rs r × Meets first count r
met None first count rs some found = cc
met (Some name) first count rs some found = (found.0, found.1.reserved, found.1.meets)

-- none was
pub none_met : (o : Option (ℕ × ℕ)) → is_some o ≡ false → IsNone o
none_met None none = search rules
none_met (Some name) none = cc

-- the count that the code computes
pub count_same : (l n u g m : ℕ) → l ≡ n → u ≡ g → g ≡ m → l / 512 / (u / 512) ≡ n / 512 / (m / 512)
count_same l n u g m a b c = ap₂ (λ (x y : ℕ). x / 512 / (y / 512)) a (b ∙ c)

module _ (v : Volume) (ranges : List Reserved) (ps : List Prepared)
    (booked : (r : Reserved) → Contains ranges r ↔ Contains (map (range_of v) ps) r) where
  pub free_writes : (first count : ℕ) → All (λ r. ¬ Meets first count r) ranges → All (λ p. ¬ Overlaps v first count p) ps
  free_writes first count free = all_unmapped (range_of v) (λ r. ¬ Meets first count r) ps
      (all_from_elements (λ r. ¬ Meets first count r) (map (range_of v) ps)
      (λ r c. at_element (λ x. ¬ Meets first count x) ranges r free ((booked r).1 c)))

  pub fresh_ranges : (caller number : ℕ) → All (λ p. ¬ HasName caller number (write_of p)) ps
      → All (λ r. ¬ HasRangeName caller number r) ranges
  fresh_ranges caller number fresh = all_from_elements (λ r. ¬ HasRangeName caller number r) ranges
      (λ r c. at_element (λ x. ¬ HasRangeName caller number x) (map (range_of v) ps) r
      (all_mapped (range_of v) (λ x. ¬ HasRangeName caller number x) ps fresh) ((booked r).0 c))

  pub not_free : (first count : ℕ) (r : Reserved) → Contains ranges r → Meets first count r
      → ¬ All (λ p. ¬ Overlaps v first count p) ps
  not_free first count r c meets free =
      at_element (λ x. ¬ Meets first count x) (map (range_of v) ps) r
      (all_mapped (range_of v) (λ x. ¬ Meets first count x) ps free) ((booked r).0 c) meets

  pub booked_more : (w : Prepared) (more : List Reserved) → IsAdded (range_of v w) ranges more
      → (r : Reserved) → Contains more r ↔ Contains (map (range_of v) (ps ++ w ∷ [])) r
  booked_more w more added r = (to, back)
    where
      whole : map (range_of v) (ps ++ w ∷ []) ≡ map (range_of v) ps ++ range_of v w ∷ []
      whole = map-append (range_of v) ps (w ∷ [])

      to : Contains more r → Contains (map (range_of v) (ps ++ w ∷ [])) r
      to c = subst (λ l. Contains l r) (sym whole) (elim (added_element (range_of v w) ranges more added r c) [
        | inl d ↦ element_left (map (range_of v) ps) (range_of v w ∷ []) r ((booked r).0 d)
        | inr is ↦ element_right (map (range_of v) ps) (range_of v w ∷ []) r (subst (Contains (range_of v w ∷ [])) is (first_element (range_of v w) []))
      ])

      back : Contains (map (range_of v) (ps ++ w ∷ [])) r → Contains more r
      back c = elim (element_of_either (map (range_of v) ps) (range_of v w ∷ []) r (subst (λ l. Contains l r) whole c)) [
        | inl d ↦ kept_element (range_of v w) ranges more added r ((booked r).1 d)
        | inr d ↦ subst (Contains more) (the_element (range_of v w) r d) (new_element (range_of v w) ranges more added)
      ]

-- the fields after an admission
pub core_admitted : (size : ℕ) (g : Geometry) (range now : Option (ℕ × ℕ)) (book next : Book) (pending more : Vec Prepared Global)
    (capacity : ℕ) (room : Vec ℕ Global) (w : Prepared) → IsCore size g range book pending capacity room → now ≡ range
    → IsPlacedWrite (volume_of g range) (write_of w) → IsAdded (range_of (volume_of g range) w) book.ranges next.ranges
    → AreApart next.ranges → next.spare + 1 ≡ book.spare → All (λ p. ¬ HasName w.caller w.number (write_of p)) pending.items → more.items ≡ pending.items ++ w ∷ [] → capacity ≤ vec_capacity more
    → IsCore size g now next more capacity room
core_admitted size g range now book next pending more capacity room w c same placed added apart spare fresh items place =
    subst (λ r. IsCore size g r next more capacity room) (sym same) (record {
      placed = c.placed;
      some = c.some;
      few = c.few;
      spare = omega (arith, c.spare, ap length items, length-append pending.items (w ∷ []));
      place = place;
      long = c.long;
      writes = subst (All (λ p. IsPlacedWrite (volume_of g range) (write_of p))) (sym items)
          (All-push (λ p. IsPlacedWrite (volume_of g range) (write_of p)) pending.items w c.writes placed);
      names = subst (AllPairs (λ x y. ¬ HasName x.caller x.number y)) (sym (ap (map write_of) items ∙ map-append write_of pending.items (w ∷ [])))
          (all_pairs_push (λ x y. ¬ HasName x.caller x.number y) (map write_of pending.items) (write_of w) c.names
          (λ k d within named. all_mapped write_of (λ x. ¬ HasName w.caller w.number x) pending.items fresh k d within (sym named.0, sym named.1)));
      apart = apart;
      booked = subst (λ ps. (r : Reserved) → Contains next.ranges r ↔ Contains (map (range_of (volume_of g range)) ps) r) (sym items)
          (booked_more (volume_of g range) book.ranges pending.items c.booked w next.ranges added);
    })

-- with another guard of the same range
pub core_guarded : (size : ℕ) (g : Geometry) (range now : Option (ℕ × ℕ)) (book : Book) (pending : Vec Prepared Global)
    (capacity : ℕ) (room : Vec ℕ Global) → IsCore size g range book pending capacity room → now ≡ range
    → IsCore size g now book pending capacity room
core_guarded size g range now book pending capacity room c same = subst (λ r. IsCore size g r book pending capacity room) (sym same) c
