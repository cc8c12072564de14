-- How a call keeps a promise, by the way in which it ends.
--
-- A call is refused with nothing touched, it is out of memory with nothing touched, or its work on the container is
-- whole. In the last case the counts of faults decide how it ended. And a call that kept its promise does what the
-- container's bytes decide, if no count rises.
use Rattle.std.proofs.Common.{◌≡◌, ◌≤◌, ◌<◌, ◌⊎◌, inl, inr, ℕ, ◌-◌, ◌^◌, false, List, Option, Some, None, option_map, Result, Ok, Err, refl, sym, ap, ◌∙◌, subst, arith}
use Rattle.std.specs.Prelude.{IfSome, IsErrAnd, IsErrOf, IsOk, OnOk}
use Rattle.vc_base.specs.Faults.{Rose}
use Rattle.vc_outside.specs.Told.{Both, Grows, GrowsByFront}
use Rattle.vc_app.specs.declared.counts.WorkError.{WorkError}
use Rattle.vc_app.specs.declared.counts.WorkError.TheVariants as work
use Rattle.vc_app.specs.declared.status.Status.{Status}
use Rattle.vc_app.specs.declared.status.Status.TheVariants.{Done, Usage, NoHeader, NoHidden, Length, BadSize, DiskFault, OutFault, NoMemory, ClientCut, ClientMagic, ClientFault, ClientHand}
use Rattle.vc_app.specs.Laws.Settled.{Settled}
use Rattle.vc_app.specs.Status.{ended, IsAfterWork, IsOfPlain, IsRefusal, work_status}
use Rattle.vc_app.specs.Promise.{goes, Goes, IsComplete, IsEarly, IsFront, IsLate, Kept, Outcome, Plan, Promise, anywhere, longer, nowhere, part, Reach, refused, Same, Seen, status_in, Unchanged, Whole, Within}
use Rattle.vc_app.proofs.Growth.{front_of_none}

-- nothing was written
pub record Quiet (old new : Seen) : Type 0 where
  pub contents : new.contents ≡ old.contents
  pub disk_later : old.disk_faults ≤ new.disk_faults
  pub out_same : new.out_faults ≡ old.out_faults

pub front_of_nothing : (o : Option Outcome) (old new : Option (List ℕ)) → new ≡ old → IsFront o old new
front_of_nothing None old new same = tt
front_of_nothing (Some (refused s)) old new same = same
front_of_nothing (Some (goes plan)) old new same =
    subst (λ (x : Option (List ℕ)). GrowsByFront old x plan.output) (sym same) (front_of_none old plan.output)

-- what is unchanged is in reach
pub unchanged_within : (r : Reach) (old new : Seen) → Unchanged old new → Within r old new
unchanged_within nowhere old new unchanged = unchanged
unchanged_within (part only left) old new unchanged = inl unchanged
unchanged_within (longer len only left) old new unchanged = inl unchanged
unchanged_within anywhere old new unchanged = tt

-- ---- nothing is written

-- how such a call ended
record Stopped (p : Promise) (s : Status) (old new : Seen) : Type 0 where
  pub unfinished : IsAfterWork s → ⊥
  pub plain : IsOfPlain s
  pub same : IsRefusal s → Unchanged old new
  pub no_memory : s ≡ NoMemory → Same old new
  pub early : (t : Status) → IsEarly p t old → ((s ≡ t) ⊎ (s ≡ NoMemory)) × Unchanged old new
  pub refused : IsRefusal s → IsEarly p s old ⊎ IsLate p s old
  pub fault : s ≡ DiskFault → Rose old.disk_faults new.disk_faults
  pub memory : s ≡ NoMemory → (new.disk_faults ≡ old.disk_faults) × (new.out_faults ≡ old.out_faults)

stopped_kept : (p : Promise) (s : Status) (old new : Seen) → Within p.reach old new → Quiet old new → Stopped p s old new
    → Kept p s old new
stopped_kept p s old new within quiet stopped = record {
  done = λ e. absurd (stopped.unfinished (inl e));
  front = front_of_nothing (p.plan old.image) old.contents new.contents quiet.contents;
  quiet = λ _. quiet.contents;
  quiet_fault = λ _ _. quiet.contents;
  whole = λ w. absurd (stopped.unfinished w);
  same = stopped.same;
  no_memory = λ e. inl (stopped.no_memory e);
  within = within;
  early = λ t h. let k = stopped.early t h in (k.0, k.1, quiet.contents);
  refused = stopped.refused;
  possible = stopped.plain;
  disk_cause = record { later = quiet.disk_later; rose = stopped.fault };
  out_cause = record { later = omega (arith, quiet.out_same); rose = λ e. absurd (stopped.unfinished (inr e)) };
  disk_count = λ e. absurd (stopped.unfinished (inl e));
  out_count = λ e. absurd (stopped.unfinished (inl e));
  memory_counts = stopped.memory;
}

-- a refusal is none of the other ends
no_end : (s t : Status) → (IsRefusal t → ⊥) → IsRefusal s → s ≡ t → ⊥
no_end s t other r e = other (subst IsRefusal e r)

pub refusal_kept : (p : Promise) (s : Status) (old new : Seen) → IsRefusal s → IsOfPlain s → Quiet old new → Unchanged old new
    → (IsEarly p s old ⊎ IsLate p s old) → ((t : Status) → IsEarly p t old → s ≡ t) → Kept p s old new
refusal_kept p s old new r plain quiet unchanged cause only =
    stopped_kept p s old new (unchanged_within p.reach old new unchanged) quiet (record {
      unfinished = λ w. elim w [ inl e ↦ no_end s Done (λ x. x) r e | inr e ↦ no_end s OutFault (λ x. x) r e ];
      plain = plain;
      same = λ _. unchanged;
      no_memory = λ e. absurd (no_end s NoMemory (λ x. x) r e);
      early = λ t h. (inl (only t h), unchanged);
      refused = λ _. cause;
      fault = λ e. absurd (no_end s DiskFault (λ x. x) r e);
      memory = λ e. absurd (no_end s NoMemory (λ x. x) r e);
    })

-- out of memory, with the bytes as they were, and with nothing touched if the command isn't admitted
pub memory_kept : (p : Promise) (old new : Seen) → Quiet old new → Same old new → Within p.reach old new
    → ((t : Status) → IsEarly p t old → Unchanged old new) → new.disk_faults ≡ old.disk_faults → Kept p NoMemory old new
memory_kept p old new quiet same within early disk = stopped_kept p NoMemory old new within quiet (record {
  unfinished = λ w. elim w [ inl e ↦ cc e | inr e ↦ cc e ];
  plain = tt;
  same = λ r. absurd r;
  no_memory = λ _. same;
  early = λ t h. (inr refl, early t h);
  refused = λ r. absurd r;
  fault = λ e. absurd (cc e);
  memory = λ _. (disk, quiet.out_same);
})

-- the container failed
pub fault_kept : (p : Promise) (old new : Seen) → ((t : Status) → IsEarly p t old → ⊥) → Within p.reach old new
    → Quiet old new → Rose old.disk_faults new.disk_faults → Kept p DiskFault old new
fault_kept p old new not_early within quiet rose = stopped_kept p DiskFault old new within quiet (record {
  unfinished = λ w. elim w [ inl e ↦ cc e | inr e ↦ cc e ];
  plain = tt;
  same = λ r. absurd r;
  no_memory = λ e. absurd (cc e);
  early = λ t h. absurd (not_early t h);
  refused = λ r. absurd r;
  fault = λ _. rose;
  memory = λ e. absurd (cc e);
})

-- ---- whole work

abbrev Ended : Type 0
Ended = Result (Unit {0}) WorkError

-- the end of a status
abbrev end_of : Status → Ended
end_of Done = Ok tt
end_of DiskFault = Err work.DiskFault
end_of OutFault = Err work.OutFault
end_of s = Err work.NoMemory

end_is : (r : Ended) → end_of (ended work_status r) ≡ r
end_is (Ok done) = refl
end_is (Err work.DiskFault) = refl
end_is (Err work.OutFault) = refl
end_is (Err work.NoMemory) = refl

by_status : (r : Ended) (s : Status) → ended work_status r ≡ s → r ≡ end_of s
by_status r s e = sym (end_is r) ∙ ap end_of e

-- what holds with Ok
with_done : (r : Ended) (P : Type 0) → ended work_status r ≡ Done → OnOk r P → P
with_done r P e h = subst (λ (x : Ended). OnOk x P) (by_status r Done e) h

no_refusal : (r : Ended) → IsRefusal (ended work_status r) → ⊥
no_refusal (Ok done) h = h
no_refusal (Err work.DiskFault) h = h
no_refusal (Err work.OutFault) h = h
no_refusal (Err work.NoMemory) h = h

is_plain : (r : Ended) → IsOfPlain (ended work_status r)
is_plain (Ok done) = tt
is_plain (Err work.DiskFault) = tt
is_plain (Err work.OutFault) = tt
is_plain (Err work.NoMemory) = tt

pub on_ok_map : {X Y : Type 0} (r : Ended) → (X → Y) → OnOk r X → OnOk r Y
on_ok_map (Ok done) f h = f h
on_ok_map (Err error) f h = h

-- what holds if the work ended well holds if the call does
pub done_after : (r worked : Ended) (P : Type 0) → OnOk r (IsOk worked) → OnOk worked P → OnOk r P
done_after (Err error) worked P ok h = tt
done_after (Ok done) (Ok worked) P ok h = h
done_after (Ok done) (Err error) P ok h = absurd (cc ok)

-- what holds of all bytes
pub of_known : {P : List ℕ → Type 0} (image : Option (List ℕ)) → ((b : List ℕ) → P b) → IfSome image P
of_known None h = tt
of_known (Some b) h = h b

-- ---- a plan that is made of the container's bytes

abbrev pub by_bytes : (List ℕ → Plan) → Option (List ℕ) → Option Outcome
by_bytes f image = option_map (λ b. goes (f b)) image

pub image_goes : (f : List ℕ → Plan) (old new : Option (List ℕ)) → Both old new (λ b c. c ≡ (f b).image)
    → Goes (by_bytes f old) (λ plan. Both old new (λ before after. after ≡ plan.image))
image_goes f None new h = tt
image_goes f (Some b) None h = h
image_goes f (Some b) (Some c) h = h

pub output_goes : (f : List ℕ → Plan) (image : Option (List ℕ)) (P : List ℕ → Type 0) → ((b : List ℕ) → P (f b).output)
    → Goes (by_bytes f image) (λ plan. P plan.output)
output_goes f None P h = tt
output_goes f (Some b) P h = h b

pub front_goes : (f : List ℕ → Plan) (image old new : Option (List ℕ)) → ((b : List ℕ) → GrowsByFront old new (f b).output)
    → IsFront (by_bytes f image) old new
front_goes f None old new h = tt
front_goes f (Some b) old new h = h b

-- the work is whole, and the counts d and o when the call began decide how it ended
pub settled_kept : (p : Promise) (r : Ended) (d o : ℕ) (old new : Seen) → d ≡ old.disk_faults → o ≡ old.out_faults
    → Settled r d new.disk_faults o new.out_faults → Whole p old new → Within p.reach old new
    → OnOk r (Goes (p.plan old.image) (λ plan. Grows old.contents new.contents plan.output))
    → IsFront (p.plan old.image) old.contents new.contents
    → (IsErrOf r work.DiskFault → p.streams ≡ false → new.contents ≡ old.contents)
    → Kept p (ended work_status r) old new
settled_kept p r d o old new d_is o_is at_counts whole within done front quiet =
    let settled : Settled r old.disk_faults new.disk_faults old.out_faults new.out_faults
    = subst (λ (k : ℕ). Settled r k new.disk_faults old.out_faults new.out_faults) d_is
    (subst (λ (k : ℕ). Settled r d new.disk_faults k new.out_faults) o_is at_counts) in
    record {
      done = λ e. with_done r _ e done;
      front = front;
      quiet = λ h. absurd (no_refusal r h);
      quiet_fault = λ e. quiet (by_status r DiskFault e);
      whole = λ _. whole;
      same = λ h. absurd (no_refusal r h);
      no_memory = λ _. inr whole;
      within = within;
      early = λ t h. absurd (h.refuses whole.admitted);
      refused = λ h. absurd (no_refusal r h);
      possible = is_plain r;
      disk_cause = record { later = settled.disk_cause.later; rose = λ e. settled.disk_cause.rose (by_status r DiskFault e) };
      out_cause = record { later = settled.out_cause.later; rose = λ e. settled.out_cause.rose (by_status r OutFault e) };
      disk_count = λ e. (with_done r _ e settled.counts).0;
      out_count = λ e. (with_done r _ e settled.counts).1;
      memory_counts = λ e. settled.memory (by_status r NoMemory e);
    }

-- the same end, as the command returns it: with an error of its own for one of the work, or Ok
pub passed_on : {E : Type 0} (status : E → Status) (own : WorkError → E) (p : Promise) (old new : Seen) (r : Ended) (e : WorkError)
    (x : Result (Unit {0}) E) → r ≡ Err e → IsErrAnd x (λ y. y ≡ own e) → status (own e) ≡ work_status e
    → Kept p (ended work_status r) old new → Kept p (ended status x) old new
passed_on status own p old new r e (Ok done) is error same kept = absurd error
passed_on status own p old new r e (Err y) is error same kept =
    subst (λ (s : Status). Kept p s old new) (sym (ap status error ∙ same))
    (subst (λ (x : Ended). Kept p (ended work_status x) old new) is kept)

pub all_done : (p : Promise) (old new : Seen) (r : Ended) (u : Unit {0}) → r ≡ Ok u → Kept p (ended work_status r) old new
    → Kept p Done old new
all_done p old new r u is kept = subst (λ (x : Ended). Kept p (ended work_status x) old new) is kept

-- ---- without a fault

still : (n m : ℕ) → n < 2 ^ 64 - 1 → m ≡ n → Rose n m → ⊥
still n m small same rose = omega (arith, small, same, rose)

-- what a plan leaves
abbrev leaves : Seen → Seen → Plan → Type 0
leaves old new plan = Both old.image new.image (λ before after. after ≡ plan.image)

goes_is_done : (o : Outcome) (P : Plan → Type 0) → Goes (Some o) P → Done ≡ status_in o
goes_is_done (refused s) P h = absurd h
goes_is_done (goes plan) P h = refl

refused_is : (p : Promise) (s : Status) (old : Seen) (o : Outcome) → p.admits old.size → p.plan old.image ≡ Some o
    → (IsEarly p s old ⊎ IsLate p s old) → (s ≡ status_in o) ⊎ (s ≡ NoMemory)
refused_is p s old o admitted is cause = elim cause [
  | inl early ↦ absurd (early.refuses admitted)
  | inr late ↦
      let here : o ≡ refused s = subst (λ (x : Option Outcome). IfSome x (λ y. y ≡ refused s)) is late.comes in
      inl (sym (ap status_in here))
]

pub complete_kept : (p : Promise) (s : Status) (old new : Seen) → Kept p s old new → IsComplete p s old new
complete_kept p s old new kept o admitted is disk_small out_small disk_same out_same = by_status s kept
  where
    by_status : (s : Status) → Kept p s old new → (s ≡ status_in o) ⊎ (s ≡ NoMemory)
    by_status Done k = inl (goes_is_done o (leaves old new) (subst (λ (x : Option Outcome). Goes x (leaves old new)) is (k.whole (inl refl)).left))
    by_status Usage k = refused_is p Usage old o admitted is (k.refused tt)
    by_status NoHeader k = refused_is p NoHeader old o admitted is (k.refused tt)
    by_status NoHidden k = refused_is p NoHidden old o admitted is (k.refused tt)
    by_status (Length len) k = refused_is p (Length len) old o admitted is (k.refused tt)
    by_status BadSize k = refused_is p BadSize old o admitted is (k.refused tt)
    by_status DiskFault k = absurd (still old.disk_faults new.disk_faults disk_small disk_same (k.disk_cause.rose refl))
    by_status OutFault k = absurd (still old.out_faults new.out_faults out_small out_same (k.out_cause.rose refl))
    by_status NoMemory k = inr refl
    by_status (ClientCut client) k = absurd k.possible
    by_status (ClientMagic client bytes) k = absurd k.possible
    by_status (ClientFault client) k = absurd k.possible
    by_status (ClientHand client refusal) k = absurd k.possible
