-- How a command that opens a volume keeps its promise: if no header was opened, and if its work was whole.
use Rattle.std.proofs.Common.{◌≡◌, ◌≤◌, ◌<◌, ℕ, suc, ◌^◌, inl, inr, Bool, false, List, [], Option, Some, None, Result, Ok, Err, refl, sym, ap, ◌∙◌, subst, arith}
use Rattle.std.proofs.Math.Nat.{lt_of_not-le}
use Rattle.std.specs.Prelude.{IfSome, IsErrAnd, IsErrOf, OnOk}
use Rattle.vc_layout.specs.Layout.{IsContainerLength}
use Rattle.header_seal.specs.declared.opened.Opened.{Opened}
use Rattle.header_try.specs.declared.open_error.OpenError.{OpenError}
use Rattle.header_try.specs.declared.open_error.OpenError.TheVariants as opening
use Rattle.vc_app.specs.declared.access.Access.{Access}
use Rattle.vc_app.specs.declared.counts.WorkError.{WorkError}
use Rattle.vc_app.specs.declared.counts.WorkError.TheVariants as work
use Rattle.vc_app.specs.declared.status.Status.{Status}
use Rattle.vc_app.specs.declared.status.Status.TheVariants.{NoHeader, Length}
use Rattle.vc_app.specs.Access.{opened, outcome_of, over_opened}
use Rattle.vc_outside.specs.Told.{Both, Grows, GrowsByFront}
use Rattle.vc_app.specs.Promise.{goes, Goes, IsFront, Kept, Lasts, nowhere, Outcome, Plan, Reach, refused, Seen, Unchanged, Within}
use Rattle.vc_app.specs.Laws.Settled.{Settled}
use Rattle.vc_app.specs.Laws.Unopened.{Unopened}
use Rattle.vc_app.specs.Status.{ended, open_status, work_status}
use Rattle.vc_app.proofs.PromiseIsKept.{fault_kept, memory_kept, on_ok_map, Quiet, refusal_kept, settled_kept, unchanged_within}

at_least : (a b : ℕ) → ¬ (¬ (a ≤ b)) → a ≤ b
at_least a b h =
    let below : a < suc b = lt_of_not-le {n = suc b} {m = a} (λ above. h (λ le. omega (arith, above, le))) in
    omega (arith, below)

-- a length that isn't refused is a container's
in_range : (n : ℕ) → ¬ (¬ IsContainerLength n) → IsContainerLength n
in_range n h = record {
  shortest = at_least 262656 n (λ other. h (λ r. other r.shortest));
  longest = at_least n (2 ^ 60) (λ other. h (λ r. other r.longest));
}

none_comes : (access : Access) (f : Opened → List ℕ → Outcome) (image : Option (List ℕ))
    → IfSome image (λ b. opened access b ≡ None)
    → IfSome ((over_opened access [] false nowhere f).plan image) (λ outcome. outcome ≡ refused NoHeader)
none_comes access f None none = tt
none_comes access f (Some b) none = ap (outcome_of (λ o. f o b)) none

unopened_kept : (access : Access) (late : List Status) (streams : Bool) (reach : Reach) (f : Opened → List ℕ → Outcome) (e : OpenError)
    (old new : Seen) → Quiet old new → Unchanged old new → Unopened access (Err e) old.image old.size old.disk_faults new.disk_faults
    → Kept (over_opened access late streams reach f) (open_status e) old new
unopened_kept access late streams reach f (opening.Length n) old new quiet unchanged is =
    let here = is.length n refl in
    refusal_kept (over_opened access late streams reach f) (Length n) old new tt tt quiet unchanged
    (inl (record { refuses = λ h. here.1 (subst IsContainerLength (sym here.0) h); comes = ap (λ (k : ℕ). Length k) here.0 }))
    (λ t early. ap (λ (k : ℕ). Length k) here.0 ∙ sym early.comes)
unopened_kept access late streams reach f opening.NoHeader old new quiet unchanged is =
    let admitted : IsContainerLength old.size = in_range old.size (λ no. cc (is.refused no)) in
    refusal_kept (over_opened access late streams reach f) NoHeader old new tt tt quiet unchanged
    (inr (record { admitted = admitted; named = (0, omega arith, refl); comes = none_comes access f old.image (is.none_valid refl) }))
    (λ t early. absurd (early.refuses admitted))
unopened_kept access late streams reach f opening.ReadFault old new quiet unchanged is =
    fault_kept (over_opened access late streams reach f) old new (λ t early. cc (is.refused early.refuses))
    (unchanged_within reach old new unchanged) quiet (is.fault refl)
unopened_kept access late streams reach f opening.NoMemory old new quiet unchanged is =
    memory_kept (over_opened access late streams reach f) old new quiet unchanged.same
    (unchanged_within reach old new unchanged) (λ t early. unchanged) (is.memory refl)

-- the same, as the command returns it: with an error of its own for that of opening
pub opening_failed : {E : Type 0} (status : E → Status) (own : OpenError → E) (access : Access) (late : List Status) (streams : Bool)
    (reach : Reach) (f : Opened → List ℕ → Outcome) (r : Result Opened OpenError) (e : OpenError) (x : Result (Unit {0}) E) (old new : Seen)
    → r ≡ Err e → IsErrAnd x (λ y. y ≡ own e) → status (own e) ≡ open_status e → Quiet old new → Unchanged old new
    → Unopened access r old.image old.size old.disk_faults new.disk_faults
    → Kept (over_opened access late streams reach f) (ended status x) old new
opening_failed status own access late streams reach f r e (Ok u) old new is error same quiet unchanged unopened = absurd error
opening_failed status own access late streams reach f r e (Err y) old new is error same quiet unchanged unopened =
    subst (λ (s : Status). Kept (over_opened access late streams reach f) s old new) (sym (ap status error ∙ same))
    (unopened_kept access late streams reach f e old new quiet unchanged
    (subst (λ (r : Result Opened OpenError). Unopened access r old.image old.size old.disk_faults new.disk_faults) is unopened))

-- ---- a header was opened, and a plan comes of it

module _ (access : Access) (late : List Status) (streams : Bool) (reach : Reach) (f : Opened → List ℕ → Outcome)
    (plan : List ℕ → Plan) (o : Opened) where
  abbrev what : Option (List ℕ) → Option Outcome
  what image = (over_opened access late streams reach f).plan image

  -- what is known of the container's bytes
  abbrev Opens : Option (List ℕ) → Type 0
  Opens image = IfSome image (λ b. (opened access b ≡ Some o) × (f o b ≡ goes (plan b)))

  comes : (b : List ℕ) → (opened access b ≡ Some o) × (f o b ≡ goes (plan b)) → goes (plan b) ≡ outcome_of (λ o. f o b) (opened access b)
  comes b is = sym (ap (outcome_of (λ o. f o b)) is.0 ∙ is.1)

  pub opened_goes : (image : Option (List ℕ)) (P : Plan → Type 0) → Opens image → IfSome image (λ b. P (plan b)) → Goes (what image) P
  opened_goes None P is h = tt
  opened_goes (Some b) P is h = subst (λ (x : Outcome). Goes (Some x) P) (comes b is) h

  pub opened_front : (image old new : Option (List ℕ)) → Opens image → IfSome image (λ b. GrowsByFront old new (plan b).output)
      → IsFront (what image) old new
  opened_front None old new is h = tt
  opened_front (Some b) old new is h = subst (λ (x : Outcome). IsFront (Some x) old new) (comes b is) h

  pub opened_kept : (r : Result (Unit {0}) WorkError) (d n : ℕ) (old new : Seen) → d ≡ old.disk_faults → n ≡ old.out_faults
      → Settled r d new.disk_faults n new.out_faults → IsContainerLength old.size → Opens old.image
      → IfSome old.image (λ b. Both old.image new.image (λ before after. after ≡ (plan b).image))
      → new.size ≡ old.size → Lasts reach new → Within reach old new
      → OnOk r (IfSome old.image (λ b. Grows old.contents new.contents (plan b).output))
      → IfSome old.image (λ b. GrowsByFront old.contents new.contents (plan b).output)
      → (IsErrOf r work.DiskFault → streams ≡ false → new.contents ≡ old.contents)
      → Kept (over_opened access late streams reach f) (ended work_status r) old new
  opened_kept r d n old new d_is n_is settled admitted is left size lasting within written prefix quiet =
      settled_kept (over_opened access late streams reach f) r d n old new d_is n_is settled
      (record { admitted = admitted; left = opened_goes old.image _ is left; length_left = size; lasting = lasting })
      within (on_ok_map r (opened_goes old.image (λ p. Grows old.contents new.contents p.output) is) written)
      (opened_front old.image old.contents new.contents is prefix) quiet

-- two facts of the bytes
pub both_known : (image : Option (List ℕ)) (P Q : List ℕ → Type 0) → IfSome image P → ((b : List ℕ) → Q b) → IfSome image (λ b. P b × Q b)
both_known None P Q p q = tt
both_known (Some b) P Q p q = (p, q b)

-- the container's bytes are as they were
pub image_same : (image new : Option (List ℕ)) → new ≡ image → IfSome image (λ b. Both image new (λ before after. after ≡ b))
image_same None new same = tt
image_same (Some b) new same = subst (λ (x : Option (List ℕ)). Both (Some b) x (λ before after. after ≡ b)) (sym same) refl

-- what doesn't depend on the bytes
pub whatever : {X : Type 0} (image : Option (List ℕ)) → X → IfSome image (λ b. X)
whatever None x = tt
whatever (Some b) x = x
