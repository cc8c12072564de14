-- The fields of a core after a write has ended: it is pending no more, and its range is released.
use Rattle.std.proofs.Common.{◌≡◌, ◌<◌, inl, inr, ℕ, zero, suc, ◌+◌, List, [], ◌∷◌, ◌++◌, Option, Vec, vec_capacity, get_or, length, take, drop, refl, sym, ap, subst, ◌∙◌, arith, length-append}
use Rattle.std.specs.Prelude.{map}
use Rattle.std.specs.Global.{Global}
use Rattle.std.specs.List.{All, AllPairs, Contains}
use Rattle.std.proofs.lemmas.List.{map-append}
use Rattle.std.proofs.lemmas.List.Elements.{All-append}
use Rattle.range_book.specs.Book.{AreApart, Book, HasName as HasRangeName, IsAdded}
use Rattle.range_book.specs.declared.reserved.Reserved.{Reserved}
use Rattle.vc_layout.specs.declared.geometry.Geometry.{Geometry}
use Rattle.sector_model.specs.History.{HasName}
use Rattle.io_core.specs.Laws.Invariant.{IsCore, range_of}
use Rattle.io_core.specs.State.{IsPlacedWrite, volume_of, write_of}
use Rattle.io_core.specs.declared.prepared.Prepared.{Prepared}
use Rattle.io_core.proofs.Elements.{all_mapped, all_unmapped, at_element, element_left, element_of_either, element_right, later_element, the_element}
use Rattle.io_core.proofs.OneMoreMark.{all_left, all_right}
use Rattle.io_core.proofs.Replaced.{pairs_above, pairs_below, pairs_without}

-- the element at a place, between those before and after it
pub parted : {X : Type 0} (xs : List X) (i : ℕ) (d : X) → i < length xs → d ≡ get_or xs i d → xs ≡ take i xs ++ d ∷ drop (suc i) xs
parted [] i d within is = absurd (omega arith)
parted (x ∷ xs) zero d within is = ap (λ y. y ∷ xs) (sym is)
parted (x ∷ xs) (suc i) d within is = ap (λ l. x ∷ l) (parted xs i d (omega arith) is)

-- Of two lists with the same elements, each loses the only one that has P.
module _ {X : Type 0} (P : X → Type 0) (low high low_there high_there : List X) (q : X) (has : P q) where
  pub others_same : (old there : List X) (r : X) → old ≡ low ++ r ∷ high → there ≡ low_there ++ q ∷ high_there
      → All (λ x. ¬ P x) low → All (λ x. ¬ P x) high → (x : X) → (Contains old x → Contains there x)
      → Contains (low ++ high) x → Contains (low_there ++ high_there) x
  others_same old there r is is_there none_low none_high x same c =
      elim (element_of_either low_there (q ∷ high_there) x (subst (λ l. Contains l x) is_there
      (same (subst (λ l. Contains l x) (sym is) (elim (element_of_either low high x c) [
        | inl d ↦ element_left low (r ∷ high) x d
        | inr d ↦ element_right low (r ∷ high) x (later_element r high x d)
      ]))))) [
        | inl d ↦ element_left low_there high_there x d
        | inr d ↦ elim (element_of_either (q ∷ []) high_there x d) [
          | inl e ↦ absurd (at_element (λ y. ¬ P y) (low ++ high) x (All-append (λ y. ¬ P y) low high none_low none_high) c (subst P (the_element q x e) has))
          | inr e ↦ element_right low_there high_there x e
        ]
      ]

pub core_closed : (size : ℕ) (g : Geometry) (range : Option (ℕ × ℕ)) (book next : Book) (pending fewer : Vec Prepared Global) (capacity : ℕ)
    (room : Vec ℕ Global) (p : Prepared) (below above : List Prepared) → IsCore size g range book pending capacity room
    → pending.items ≡ below ++ p ∷ above → fewer.items ≡ below ++ above → vec_capacity fewer ≡ vec_capacity pending
    → (r : Reserved) → HasRangeName p.caller p.number r → IsAdded r next.ranges book.ranges → AreApart next.ranges → next.spare ≡ book.spare + 1
    → IsCore size g range next fewer capacity room
core_closed size g range book next pending fewer capacity room p below above c was now place r named removed apart spare =
    let W : Prepared → Type 0 = λ x. IsPlacedWrite (volume_of g range) (write_of x) in
    let writes : All W (below ++ p ∷ above) = subst (All W) was c.writes in
    let f : Prepared → Reserved = range_of (volume_of g range) in
    let P : Reserved → Type 0 = HasRangeName p.caller p.number in
    let names : AllPairs (λ w x. ¬ HasName w.caller w.number x) (map write_of below ++ write_of p ∷ map write_of above)
    = subst (AllPairs (λ w x. ¬ HasName w.caller w.number x)) (ap (map write_of) was ∙ map-append write_of below (p ∷ above)) c.names in
    let low : All (λ x. ¬ HasName p.caller p.number (write_of x)) below
    = all_unmapped write_of (λ w. ¬ HasName p.caller p.number w) below (λ k d within is.
    pairs_below (λ w x. ¬ HasName w.caller w.number x) (map write_of below) (map write_of above) (write_of p) names k d within (sym is.0, sym is.1)) in
    let high : All (λ x. ¬ HasName p.caller p.number (write_of x)) above
    = all_unmapped write_of (λ w. ¬ HasName p.caller p.number w) above
    (pairs_above (λ w x. ¬ HasName w.caller w.number x) (map write_of below) (map write_of above) (write_of p) names) in
    let apart_was : AllPairs (λ x y. ¬ HasRangeName x.caller x.number y) (removed.below ++ r ∷ removed.above)
    = subst (AllPairs (λ x y. ¬ HasRangeName x.caller x.number y)) removed.with_it c.apart.names_differ in
    let booked_low : All (λ x. ¬ P x) removed.below = λ k d within is.
    pairs_below (λ x y. ¬ HasRangeName x.caller x.number y) removed.below removed.above r apart_was k d within
    (named.0 ∙ sym is.0, named.1 ∙ sym is.1) in
    let booked_high : All (λ x. ¬ P x) removed.above = λ k d within is.
    pairs_above (λ x y. ¬ HasRangeName x.caller x.number y) removed.below removed.above r apart_was k d within
    (is.0 ∙ sym named.0, is.1 ∙ sym named.1) in
    let ranges_was : map f pending.items ≡ map f below ++ f p ∷ map f above = ap (map f) was ∙ map-append f below (p ∷ above) in
    let ranges_now : map f fewer.items ≡ map f below ++ map f above = ap (map f) now ∙ map-append f below above in
    record {
      placed = c.placed;
      some = c.some;
      few = c.few;
      spare = omega (arith, c.spare, spare, ap length was, ap length now, length-append below (p ∷ above), length-append below above);
      place = omega (arith, c.place, place);
      long = c.long;
      writes = subst (All W) (sym now) (All-append W below above (all_left W below (p ∷ above) writes)
          (λ k d within. all_right W below (p ∷ above) writes (suc k) d (omega arith)));
      names = subst (AllPairs (λ w x. ¬ HasName w.caller w.number x)) (sym (ap (map write_of) now ∙ map-append write_of below above))
          (pairs_without (λ w x. ¬ HasName w.caller w.number x) (map write_of below) (map write_of above) (write_of p) names);
      apart = apart;
      booked = λ x. (
        λ h. subst (λ l. Contains l x) (sym ranges_now)
            (others_same P removed.below removed.above (map f below) (map f above) (f p) (refl, refl) book.ranges (map f pending.items) r removed.with_it ranges_was
            booked_low booked_high x ((c.booked x).0) (subst (λ l. Contains l x) removed.without h)),
        λ h. subst (λ l. Contains l x) (sym removed.without)
            (others_same P (map f below) (map f above) removed.below removed.above r named (map f pending.items) book.ranges (f p) ranges_was removed.with_it
            (all_mapped f (λ y. ¬ P y) below low) (all_mapped f (λ y. ¬ P y) above high) x ((c.booked x).1) (subst (λ l. Contains l x) ranges_now h)),
      );
    }
