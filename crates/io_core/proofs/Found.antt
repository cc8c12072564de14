-- A pending write is found by its name.
use Rattle.std.proofs.Common.{◌≡◌, ◌<◌, ◌↔◌, ℕ, zero, suc, List, [], ◌∷◌, Option, Vec, vec_capacity, vec_len, get_or, set, length, refl, sym, ap, subst, ◌∙◌, arith, inl, inr}
use Rattle.std.specs.Prelude.{map}
use Rattle.std.specs.Global.{Global}
use Rattle.std.specs.List.{All, AllPairs, Any, Contains}
use Rattle.std.proofs.lemmas.List.{length-map}
use Rattle.std.proofs.lemmas.Bool.Decides.{leb_tells}
use Rattle.range_book.specs.Book.{Book}
use Rattle.range_book.specs.declared.reserved.Reserved.{Reserved}
use Rattle.vc_layout.specs.declared.geometry.Geometry.{Geometry}
use Rattle.sector_model.specs.Array.{sectors_of, Volume}
use Rattle.sector_model.specs.History.{HasName, Write}
use Rattle.io_core.specs.Laws.Invariant.{IsCore, range_of}
use Rattle.io_core.specs.Laws.Marked.{IsMarked}
use Rattle.io_core.specs.State.{IsPlacedWrite, volume_of, write_of}
use Rattle.io_core.specs.declared.part.PartState.{PartState}
use Rattle.io_core.specs.declared.prepared.Prepared.{Prepared}
use Rattle.io_core.proofs.Elements.{all_mapped, all_unmapped}
use Rattle.io_core.proofs.Replaced.{IsReplaced, map_replaced, replaced}

at_mapped : (ps : List Prepared) (k : ℕ) (d : Prepared) → get_or (map write_of ps) k (write_of d) ≡ write_of (get_or ps k d)
at_mapped [] k d = refl
at_mapped (p ∷ ps) zero d = refl
at_mapped (p ∷ ps) (suc k) d = at_mapped ps k d

module _ (caller number : ℕ) (ps : List Prepared) (names : AllPairs (λ w x. ¬ HasName w.caller w.number x) (map write_of ps)) where
  -- of two pending writes of this name, both are the same
  same_place : (i j : ℕ) (d : Prepared) → i < length ps → j < length ps → HasName caller number (write_of (get_or ps i d))
      → HasName caller number (write_of (get_or ps j d)) → i ≡ j
  same_place i j d in_i in_j here there = elim (leb_tells (suc i) j) [
    | inl (t, less) ↦ absurd (apart i j less in_j here there)
    | inr (t, more) ↦ elim (leb_tells (suc j) i) [
      | inl (f, less) ↦ absurd (apart j i less in_i there here)
      | inr (f, least) ↦ omega arith
    ]
  ]
    where
      apart : (a b : ℕ) → a < b → b < length ps → HasName caller number (write_of (get_or ps a d)) → HasName caller number (write_of (get_or ps b d)) → ⊥
      apart a b less within one two =
          let none : ¬ HasName (write_of (get_or ps a d)).caller (write_of (get_or ps a d)).number (write_of (get_or ps b d))
          = subst (λ w. ¬ HasName w.caller w.number (write_of (get_or ps b d))) (at_mapped ps a d)
          (subst (λ w. ¬ HasName (get_or (map write_of ps) a (write_of d)).caller (get_or (map write_of ps) a (write_of d)).number w) (at_mapped ps b d)
          (names a b (write_of d) less (omega (arith, length-map ps write_of)))) in
          none (two.0 ∙ sym one.0, two.1 ∙ sym one.1)

  -- so if some write of the name has a property, the one that was found has it
  pub the_found : (P : Prepared → Type 0) (at : ℕ) (d : Prepared) → at < length ps → HasName caller number (write_of (get_or ps at d))
      → Any (λ p. HasName caller number (write_of p) × P p) ps → P (get_or ps at d)
  the_found P at d within here any =
      let k : ℕ = any.0 in
      let x : Prepared = any.1 in
      let read : get_or ps k d ≡ x = get_or_default ps k d x any.2 ∙ any.3 in
      let there : HasName caller number (write_of (get_or ps k d)) = subst (λ y. HasName caller number (write_of y)) (sym read) any.4.0 in
      let same : k ≡ at = same_place k at d any.2 within there here in
      subst P (sym read ∙ ap (λ (i : ℕ). get_or ps i d) same) any.4.1
    where
      get_or_default : (qs : List Prepared) (i : ℕ) (a b : Prepared) → i < length qs → get_or qs i a ≡ get_or qs i b
      get_or_default [] i a b below = absurd (omega arith)
      get_or_default (q ∷ qs) zero a b below = refl
      get_or_default (q ∷ qs) (suc i) a b below = get_or_default qs i a b (omega arith)

pub marked_is_replaced : (at index : ℕ) (x : PartState) (d : Prepared) (old new : List Prepared) → at < length old
    → (m : IsMarked at index x d old new) → IsReplaced (get_or old at d) m.write old new
marked_is_replaced at index x d old new within m =
    let r : IsReplaced (get_or old at d) m.write old (set old at m.write) = replaced old at m.write d within in
    record { below = r.below; above = r.above; was = r.was; now = m.others ∙ r.now }

abbrev range_of_write : Volume → Write → Reserved
range_of_write v w = record { caller = w.caller; number = w.number; first = w.first; count = sectors_of v w.bytes }

-- the fields after a deposit
pub core_deposited : (size now : ℕ) (g : Geometry) (range : Option (ℕ × ℕ)) (book : Book) (pending next : Vec Prepared Global) (capacity : ℕ)
    (room again : Vec ℕ Global) (p q : Prepared) → IsCore size g range book pending capacity room → now ≡ size
    → IsReplaced p q pending.items next.items → write_of q ≡ write_of p → vec_capacity next ≡ vec_capacity pending
    → vec_len again ≡ vec_len room → IsCore now g range book next capacity again
core_deposited size now g range book pending next capacity room again p q c same r unchanged place long =
    let writes : map write_of next.items ≡ map write_of pending.items = map_replaced write_of p q pending.items next.items r unchanged in
    let ranges : map (range_of (volume_of g range)) next.items ≡ map (range_of (volume_of g range)) pending.items
    = map_replaced (range_of (volume_of g range)) p q pending.items next.items r
    (ap (λ (w : Write). range_of_write (volume_of g range) w) unchanged) in
    subst (λ (n : ℕ). IsCore n g range book next capacity again) (sym same) (record {
      placed = c.placed;
      some = c.some;
      few = c.few;
      spare = omega (arith, c.spare, ap length writes, length-map next.items write_of, length-map pending.items write_of);
      place = omega (arith, c.place, place);
      long = long ∙ c.long;
      writes = all_unmapped write_of (IsPlacedWrite (volume_of g range)) next.items
          (subst (All (IsPlacedWrite (volume_of g range))) (sym writes) (all_mapped write_of (IsPlacedWrite (volume_of g range)) pending.items c.writes));
      names = subst (AllPairs (λ w x. ¬ HasName w.caller w.number x)) (sym writes) c.names;
      apart = c.apart;
      booked = subst (λ l. (r : Reserved) → Contains book.ranges r ↔ Contains l r) (sym ranges) c.booked;
    })
