-- The derivations of a kind are those of its slots, one slot after the other.
use Rattle.std.proofs.Common.{◌≡◌, ℕ, zero, suc, ◌<◌, List, [], ◌∷◌, ◌++◌, length, get_or, Option, Some, None, refl, sym, ap, ◌∙◌, subst, arith, All}
use Rattle.std.specs.Prelude.{IfSome, Contains}
use Rattle.std.specs.List.{flat_map}
use Rattle.kdf_hmac.specs.declared.prf.Prf.TheVariants.{Sha512, Sha256}
use Rattle.kdf_hmac.specs.Prfs.{all_prfs}
use Rattle.vc_layout.specs.declared.kind.Kind.{Kind}
use Rattle.vc_layout.specs.declared.slots.Slot.{Slot}
use Rattle.vc_layout.specs.Kinds.{slots_of}
use Rattle.header_seal.specs.Sealed.{header_at}
use Rattle.header_seal.specs.Candidates.{candidates_of}
use Rattle.header_try.proofs.First.{contains_first, contains_second}
use Rattle.header_race.specs.declared.entrant.Entrant.{Entrant}
use Rattle.header_race.specs.Laws.Race.{IsListed, IsReadFrom, of_slot}

module _ {X : Type 0} (P : X → Type 0) where
  none_of_all : All P []
  none_of_all i d lt = absurd (omega (arith, lt))

  and_all : (x : X) (xs : List X) → P x → All P xs → All P (x ∷ xs)
  and_all x xs holds all zero d lt = holds
  and_all x xs holds all (suc i) d lt = all i d (omega (arith, lt))

-- the derivations of one slot
abbrev by_sha512 : Slot → List ℕ → Entrant
by_sha512 slot h = record { slot = slot; prf = Sha512; header = h }

abbrev by_sha256 : Slot → List ℕ → Entrant
by_sha256 slot h = record { slot = slot; prf = Sha256; header = h }

and_slot : (P : Entrant → Type 0) (slot : Slot) (h : List ℕ) (es : List Entrant) → P (by_sha512 slot h) → P (by_sha256 slot h)
    → All P es → All P (of_slot slot h ++ es)
and_slot P slot h es first second others =
    and_all P (by_sha512 slot h) (by_sha256 slot h ∷ es) first (and_all P (by_sha256 slot h) es second others)

read_one : (image : Option (List ℕ)) (slot : Slot) (h : List ℕ) → IfSome image (λ b. h ≡ header_at slot b)
    → IfSome image (λ b. All (IsReadFrom b) (of_slot slot h))
read_one None slot h read = tt
read_one (Some b) slot h read = and_slot (IsReadFrom b) slot h [] read read (none_of_all (IsReadFrom b))

read_two : (image : Option (List ℕ)) (slot other : Slot) (h h' : List ℕ) → IfSome image (λ b. h ≡ header_at slot b)
    → IfSome image (λ b. h' ≡ header_at other b) → IfSome image (λ b. All (IsReadFrom b) (of_slot slot h ++ of_slot other h'))
read_two None slot other h h' read read' = tt
read_two (Some b) slot other h h' read read' =
    and_slot (IsReadFrom b) slot h (of_slot other h') read read
    (and_slot (IsReadFrom b) other h' [] read' read' (none_of_all (IsReadFrom b)))

module _ (kind : Kind) (image : Option (List ℕ)) (slot : Slot) (h : List ℕ) (es : List Entrant) where
  pub one_slot : (start : List Entrant) → start ≡ [] → es ≡ start ++ of_slot slot h → slots_of kind ≡ slot ∷ []
      → IfSome image (λ b. h ≡ header_at slot b) → IsListed kind image es
  one_slot start empty added slots read =
      let is : es ≡ of_slot slot h = added ∙ ap (λ (z : List Entrant). z ++ of_slot slot h) empty in
      let here : Contains (slots_of kind) slot = contains_first (slots_of kind) slot [] slot slots refl in
      let P : Entrant → Type 0 = λ e. Contains (slots_of kind) e.slot in
      subst (IsListed kind image) (sym is) record {
        few = omega arith;
        kinds = ap (λ (ss : List Slot). flat_map (λ slot. flat_map (candidates_of slot) all_prfs) ss) (sym slots);
        slots = and_slot P slot h [] here here (none_of_all P);
        read = read_one image slot h read;
      }

  pub two_slots : (start between : List Entrant) (image' : Option (List ℕ)) (other : Slot) (h' : List ℕ) → start ≡ []
      → between ≡ start ++ of_slot slot h → es ≡ between ++ of_slot other h' → slots_of kind ≡ slot ∷ other ∷ []
      → IfSome image (λ b. h ≡ header_at slot b) → image' ≡ image → IfSome image' (λ b. h' ≡ header_at other b)
      → IsListed kind image es
  two_slots start between image' other h' empty added added' slots read same read' =
      let first : between ≡ of_slot slot h = added ∙ ap (λ (z : List Entrant). z ++ of_slot slot h) empty in
      let is : es ≡ of_slot slot h ++ of_slot other h' = added' ∙ ap (λ (z : List Entrant). z ++ of_slot other h') first in
      let here : Contains (slots_of kind) slot = contains_first (slots_of kind) slot (other ∷ []) slot slots refl in
      let there : Contains (slots_of kind) other = contains_second (slots_of kind) slot other other slots refl in
      let P : Entrant → Type 0 = λ e. Contains (slots_of kind) e.slot in
      let then : IfSome image (λ b. h' ≡ header_at other b)
      = subst (λ (i : Option (List ℕ)). IfSome i (λ b. h' ≡ header_at other b)) same read' in
      subst (IsListed kind image) (sym is) record {
        few = omega arith;
        kinds = ap (λ (ss : List Slot). flat_map (λ slot. flat_map (candidates_of slot) all_prfs) ss) (sym slots);
        slots = and_slot P slot h (of_slot other h') here here (and_slot P other h' [] there there (none_of_all P));
        read = read_two image slot other h h' read then;
      }
