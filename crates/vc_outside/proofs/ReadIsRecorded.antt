-- The bytes of a store over memory are what its record gives a read.
use Rattle.std.proofs.Common.{◌≡◌, ℕ, zero, suc, ◌+◌, ◌-◌, ◌≤◌, List, [], ◌∷◌, ◌++◌, length, take, drop, refl, sym, ◌∙◌, ap, subst, inr, arith, length-take, length-drop, length-take-le}
use Rattle.std.specs.Prelude.{slice_range}
use Rattle.std.proofs.lemmas.List.{take_all}
use Rattle.vc_outside.specs.Memory.{Held, May, stored}
use Rattle.vc_outside.specs.Laws.Invariant.{IsHeld}
use Rattle.vc_outside.specs.Record.{after, crashed, Event, read_after}
use Rattle.vc_outside.specs.Laws.Invariant.{Fits, IsRecord}
use Rattle.vc_outside.specs.Told.{written, SameOutside}
use Rattle.vc_outside.proofs.Events.{IsAsLong, IsRecord-push, Outcome-crashed, read_after-push}
use Rattle.vc_outside.proofs.Writes.{range-written, outside-wider, outside-written, written-outside}

pub held-first : (first bytes : List ℕ) (es : List Event) → bytes ≡ first → es ≡ [] → IsHeld first es bytes
unfolding read_after IsRecord
held-first first bytes es same none = subst (λ (fs : List Event). IsHeld first fs bytes) (sym none) (record { shows = same; sound = tt })

pub held-next : (first bytes bytes' : List ℕ) (es es' : List Event) (e : Event) → IsHeld first es bytes → Fits e bytes
    → bytes' ≡ after e bytes → es' ≡ es ++ e ∷ [] → IsHeld first es' bytes'
held-next first bytes bytes' es es' e held fits is more = record {
  shows = is ∙ ap (after e) held.shows ∙ sym (read_after-push es e first) ∙ ap (λ (fs : List Event). read_after fs first) (sym more);
  sound = subst (λ (fs : List Event). IsRecord fs first) (sym more) (IsRecord-push es e first held.sound (subst (Fits e) held.shows fits));
}

module _ (k at : ℕ) (xs b : List ℕ) (within : at + length xs ≤ length b) (prefix : k ≤ length xs) where
  kept : length (take k xs) ≡ k
  kept = length-take-le k xs prefix

  outside : SameOutside at (length xs) b (written at (take k xs) b)
  outside = outside-wider at (length (take k xs)) (length xs) b (written at (take k xs) b) (omega (arith, kept)) (written-outside at (take k xs) b (omega (arith, kept)))

  pub stored-after : written at (stored k at xs b) b ≡ written at (take k xs) b
  stored-after = outside-written at (length xs) b (written at (take k xs) b) within outside

  pub stored-long : length (stored k at xs b) ≡ length xs
  stored-long = grind (arith, length-take (at + length xs - at) (drop at (written at (take k xs) b)), length-drop at (written at (take k xs) b), outside.as_long)

as_long : (p : ℕ) (b : List ℕ) → IsAsLong p b b
as_long zero b = tt
as_long (suc p) b = refl

-- what a pick leaves is an image that a crash may leave
pub may-crash : (p : ℕ) (h : Held) → IsRecord h.events h.first → May h (crashed p h.events h.first h.first)
may-crash p h sound = inr (Outcome-crashed p h.events h.first (λ d. d ≡ h.first) h.first refl sound (as_long p h.first))

-- a write that stores all of its bytes
pub stored-all : (k at : ℕ) (xs b : List ℕ) → at + length xs ≤ length b → k ≡ length xs → stored k at xs b ≡ xs
stored-all k at xs b within all =
    ap (λ (l : List ℕ). slice_range (written at l b) at (at + length xs)) (take_all k xs (omega arith)) ∙ range-written at xs b within
