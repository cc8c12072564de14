-- The first derivation that has a valid candidate gives the first valid candidate of the kind.
--
-- The candidates of the derivations, one list after the other, are those of the kind. What a derivation tests by
-- its header is what the definition tests by the image that the header was read from.
use Rattle.std.proofs.Common.{◌≡◌, ℕ, zero, suc, ◌<◌, ◌≤◌, Bool, List, [], ◌∷◌, length, get_or, Option, Some, None, refl, sym, ap, ap₂, ◌∙◌, subst, arith, All}
use Rattle.std.specs.Prelude.{IfSome, Contains, find, option_map}
use Rattle.std.specs.List.{flat_map}
use Rattle.algorithm_names.specs.declared.algorithm.Algorithm.{Algorithm}
use Rattle.algorithm_names.specs.Algorithms.{all_algorithms}
use Rattle.vc_layout.specs.declared.kind.Kind.{Kind}
use Rattle.vc_layout.specs.declared.slots.Slot.{Slot}
use Rattle.vc_layout.specs.Kinds.{slots_of}
use Rattle.vc_header.specs.Header.{fields_of, Meets}
use Rattle.vc_header.specs.Laws.Tests.{is_valid}
use Rattle.header_seal.specs.declared.opened.Opened.{Opened}
use Rattle.header_seal.specs.Sealed.{header_at, plain_by}
use Rattle.header_seal.specs.Candidates.{Candidate, candidate_of, candidates, first, is_valid_in, is_valid_under, IsFirst}
use Rattle.header_try.proofs.Finding.{find-map, found_alike}
use Rattle.header_race.specs.declared.entrant.Entrant.{Entrant}
use Rattle.header_race.specs.declared.entrant.Numbers.{Numbers}
use Rattle.header_race.specs.Laws.Race.{AreOf, candidate, candidates_by, entrants_of, HasFields, IsAt, IsFirstOf, IsOf, IsReadFrom, NoneBefore, winner}
use Rattle.header_race.proofs.Firsts.{found_in_none, found_in_one}

module _ (r : Numbers) (b : List ℕ) (whole : length b ≡ r.len) where
  abbrev test : Candidate → Bool
  test c = is_valid_in c b r.password.value r.pim

  -- a derivation's first valid candidate, by the image
  by_image : (e : Entrant) → IsReadFrom b e → find test (candidates_by e) ≡ option_map (candidate e) (winner r e)
  by_image e read =
      found_alike test (is_valid_under e.header r.len r.password.value r.pim) (candidate e) all_algorithms
      (λ a. ap₂ (λ (h : List ℕ) (n : ℕ). is_valid (plain_by e.prf a r.password.value r.pim h) e.slot n) (sym read) whole)
      ∙ find-map (is_valid_under e.header r.len r.password.value r.pim) (candidate e) all_algorithms

  at_place : (k : ℕ) (d : Entrant) → k < length (entrants_of r) → IsAt r k (get_or (entrants_of r) k d)
  at_place k d below = record { below = below; is = λ d'. all_alike (entrants_of r) k d d' below }
    where
      all_alike : (es : List Entrant) (k : ℕ) (d d' : Entrant) → k < length es → get_or es k d' ≡ get_or es k d
      all_alike [] k d d' below = absurd (omega (arith, below))
      all_alike (x ∷ xs) zero d d' below = refl
      all_alike (x ∷ xs) (suc k) d d' below = all_alike xs k d d' (omega (arith, below))

  none_at : (k : ℕ) (d : Entrant) → k < length (entrants_of r) → All (IsReadFrom b) (entrants_of r)
      → winner r (get_or (entrants_of r) k d) ≡ None → find test (candidates_by (get_or (entrants_of r) k d)) ≡ None
  none_at k d below read none =
      let e : Entrant = get_or (entrants_of r) k d in
      by_image e (read k d below) ∙ ap (option_map (candidate e)) none

  pub first_is : (kind : Kind) (o : Opened) → AreOf kind (entrants_of r) → All (IsReadFrom b) (entrants_of r)
      → IsFirstOf r o → IsFirst o kind b r.password.value r.pim
  unfolding first
  first_is kind o kinds read won =
      let e : Entrant = won.entrant in
      let here : IsReadFrom b e = subst (IsReadFrom b) (won.at.is e) (read won.derivation e won.at.below) in
      let is : candidate e o.algorithm ≡ candidate_of o
      = λ i. record { slot = sym won.slot i; prf = sym won.prf i; algorithm = o.algorithm } in
      let below = won.at.below in record {
        candidate =
            ap (find test) (sym kinds)
            ∙ found_in_one test candidates_by (entrants_of r) won.derivation e (candidate e o.algorithm) below won.at.is
            (λ j d lt. none_at j d (omega (arith, lt, below)) read
            (won.before j (get_or (entrants_of r) j d) lt (at_place j d (omega (arith, lt, below)))))
            (by_image e here ∙ ap (option_map (candidate e)) won.wins)
            ∙ ap Some is;
        fields =
            won.has.fields
            ∙ (λ i. fields_of (plain_by (sym won.prf i) o.algorithm r.password.value r.pim
            ((here ∙ ap (λ (s : Slot). header_at s b) (sym won.slot)) i)));
      }

  pub none_is : (kind : Kind) → AreOf kind (entrants_of r) → All (IsReadFrom b) (entrants_of r)
      → NoneBefore r (length (entrants_of r)) → first kind b r.password.value r.pim ≡ None
  unfolding first
  none_is kind kinds read none =
      ap (find test) (sym kinds)
      ∙ found_in_none test candidates_by (entrants_of r)
      (λ j d lt. none_at j d lt read (none j (get_or (entrants_of r) j d) lt (at_place j d lt)))

module _ (image : Option (List ℕ)) (size : ℕ) (r : Numbers) (p : List ℕ) (pim len : ℕ) (kind : Kind) where
  -- the same of contents that may be unknown
  pub opened_is : (o : Opened) → IsOf r p pim len → len ≡ size → IfSome image (λ b. length b ≡ size)
      → AreOf kind (entrants_of r) → IfSome image (λ b. All (IsReadFrom b) (entrants_of r)) → IsFirstOf r o
      → IfSome image (λ b. IsFirst o kind b p pim)
  opened_is o is same whole kinds read won = by_image image whole read
    where
      by_image : (i : Option (List ℕ)) → IfSome i (λ b. length b ≡ size)
          → IfSome i (λ b. All (IsReadFrom b) (entrants_of r)) → IfSome i (λ b. IsFirst o kind b p pim)
      by_image None whole read = tt
      by_image (Some b) whole read =
          subst (λ (z : List ℕ × ℕ). IsFirst o kind b z.0 z.1) (λ i. (is.password_is i, is.pim_is i))
          (first_is r b (whole ∙ sym same ∙ sym is.len_is) kind o kinds read won)

  pub none_opened : IsOf r p pim len → len ≡ size → IfSome image (λ b. length b ≡ size)
      → AreOf kind (entrants_of r) → IfSome image (λ b. All (IsReadFrom b) (entrants_of r))
      → NoneBefore r (length (entrants_of r)) → IfSome image (λ b. first kind b p pim ≡ None)
  none_opened is same whole kinds read none = by_image image whole read
    where
      by_image : (i : Option (List ℕ)) → IfSome i (λ b. length b ≡ size)
          → IfSome i (λ b. All (IsReadFrom b) (entrants_of r)) → IfSome i (λ b. first kind b p pim ≡ None)
      by_image None whole read = tt
      by_image (Some b) whole read =
          subst (λ (z : List ℕ × ℕ). first kind b z.0 z.1 ≡ None) (λ i. (is.password_is i, is.pim_is i))
          (none_is r b (whole ∙ sym same ∙ sym is.len_is) kind kinds read none)

-- the slot of an opened header is one of the kind's, and its fields meet the rules for that slot
pub slot_is : (r : Numbers) (o : Opened) (slots : List Slot) → All (λ e. Contains slots e.slot) (entrants_of r)
    → IsFirstOf r o → Contains slots o.slot
slot_is r o slots each won =
    subst (Contains slots) (ap (λ (e : Entrant). e.slot) (won.at.is won.entrant) ∙ sym won.slot)
    (each won.derivation won.entrant won.at.below)

pub meets_is : (r : Numbers) (o : Opened) (p : List ℕ) (pim len size : ℕ) → IsOf r p pim len → len ≡ size
    → IsFirstOf r o → Meets o.fields o.slot size
meets_is r o p pim len size is same won =
    subst (λ (z : Slot × ℕ). Meets o.fields z.0 z.1) (λ i. (sym won.slot i, (is.len_is ∙ same) i)) won.has.meets
