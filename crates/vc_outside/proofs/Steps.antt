-- What the trait `Store` asks of a call, from what the call recorded.
use Rattle.std.proofs.Common.{◌≡◌, ℕ, ◌+◌, ◌/◌, ◌≤◌, Bool, true, false, Option, Some, None, List, [], length, refl, sym, ◌∙◌, ap, subst, inl, inr, arith, ◌&&◌}
use Rattle.std.proofs.lemmas.Bool.{false≢true}
use Rattle.std.specs.Prelude.{IfSome}
use Rattle.vc_base.specs.Faults.{HasCause}
use Rattle.vc_outside.specs.Crash.{IsLasting, Outcomes, Relength, Stays}
use Rattle.vc_outside.specs.Memory.{called, Held, LeftBy, May, Memory, noted, noted_if, shown, Since, stored, write_by, write_event, write_goes}
use Rattle.vc_outside.specs.Planned.{counted_if, goes}
use Rattle.vc_outside.specs.Record.{after, Event, Left, Outcome, read_after, Resized, Synced, Wrote}
use Rattle.vc_outside.specs.Told.{resized, SameOutside, written}
use Rattle.vc_outside.specs.declared.planned.CallPlan.{CallPlan}
use Rattle.vc_outside.specs.declared.planned.CallPlan.TheVariants.{Goes, Fails, Stops, Stopped}
use Rattle.vc_outside.proofs.Calls.{Open, records_nothing, records_one}
use Rattle.vc_outside.proofs.Events.{Outcome-pushed, read_after-push}
use Rattle.vc_outside.proofs.ReadIsRecorded.{stored-long}
use Rattle.vc_outside.proofs.Writes.{length-resized, outside-same, resized-outcome, written-outside}

-- how the outcomes change from h to i
abbrev pub Follow : Held → Held → (List ℕ → List ℕ → Type 0) → Type 0
Follow h i step = Outcomes true (length h.events) (length i.events) (Since h) (Since i) (May h) (May i) step

pub by_event : (h : Held) (e : Option Event) (step : List ℕ → List ℕ → Type 0) → ((c : List ℕ) → step c c)
    → IfSome e (λ f. step (shown h) (after f (shown h)))
    → IfSome e (λ f. (c : List ℕ) → Left f (shown h) (Open h) c → (d : List ℕ) × May h d × step d c) → Follow h (noted_if e h) step
by_event h None step same moves left = records_nothing h step same
by_event h (Some e) step same moves left = records_one h e step moves left

pub shown-noted : (h : Held) (e : Event) → shown (noted e h) ≡ after e (shown h)
shown-noted h e = read_after-push h.events e h.first

module _ (at : ℕ) (xs b : List ℕ) (within : at + length xs ≤ length b) where
  half : length xs / 2 ≤ length xs
  half = omega arith

  write-left : (place : Bool) (plan : CallPlan) (P Q : List ℕ → Type 0) → ((d : List ℕ) → P d → Q d)
      → IfSome (write_by place plan at xs b) (λ e. (c : List ℕ) → Left e b P c → (d : List ℕ) × Q d × SameOutside at (length xs) d c)
  write-left false plan P Q into = tt
  write-left true Goes P Q into = λ c (d, could, same). (d, into d could, same)
  write-left true Fails P Q into =
      λ c (d, could, same). (d, into d could, subst (λ n. SameOutside at n d c) (stored-long (length xs / 2) at xs b within half) same)
  write-left true Stops P Q into = λ c (d, could, same). (d, into d could, same)
  write-left true Stopped P Q into = tt

  write-outside : (place : Bool) (plan : CallPlan) → IfSome (write_by place plan at xs b) (λ e. SameOutside at (length xs) b (after e b))
  write-outside false plan = tt
  write-outside true Goes = written-outside at xs b within
  write-outside true Fails =
      let long = stored-long (length xs / 2) at xs b within half in
      subst (λ n. SameOutside at n b (written at (stored (length xs / 2) at xs b) b)) long (written-outside at (stored (length xs / 2) at xs b) b (omega (arith, long)))
  write-outside true Stops = outside-same at (length xs) b
  write-outside true Stopped = tt

  write-whole : (place : Bool) (plan : CallPlan) → (place && goes plan) ≡ true → write_by place plan at xs b ≡ Some (Wrote at xs)
  write-whole false plan yet = cc
  write-whole true Goes yet = refl
  write-whole true Fails yet = cc
  write-whole true Stops yet = cc
  write-whole true Stopped yet = cc

pub write-follows : (m : Memory) (at : ℕ) (xs : List ℕ) (failed : Bool) → at + length xs ≤ length (shown m.held)
    → Follow m.held (called (write_event at xs m) failed m).held (SameOutside at (length xs))
write-follows m at xs failed within = by_event m.held (write_event at xs m) (SameOutside at (length xs)) (outside-same at (length xs))
    (write-outside at xs (shown m.held) within _ _)
    (write-left at xs (shown m.held) within _ _ (Open m.held) (May m.held) (λ d left. inr left))

outside-noted : (h : Held) (e : Option Event) (at n : ℕ) → IfSome e (λ f. SameOutside at n (shown h) (after f (shown h))) → SameOutside at n (shown h) (shown (noted_if e h))
outside-noted h None at n same = outside-same at n (shown h)
outside-noted h (Some e) at n same = subst (SameOutside at n (shown h)) (sym (shown-noted h e)) same

pub write-shown : (m : Memory) (at : ℕ) (xs : List ℕ) (failed : Bool) → at + length xs ≤ length (shown m.held)
    → SameOutside at (length xs) (shown m.held) (shown (called (write_event at xs m) failed m).held)
write-shown m at xs failed within = outside-noted m.held (write_event at xs m) at (length xs) (write-outside at xs (shown m.held) within _ _)

pub write-written : (m : Memory) (at : ℕ) (xs : List ℕ) (failed : Bool) → at + length xs ≤ length (shown m.held) → write_goes xs m ≡ true
    → shown (called (write_event at xs m) failed m).held ≡ written at xs (shown m.held)
write-written m at xs failed within let_go =
    ap (λ (e : Option Event). shown (noted_if e m.held)) (write-whole at xs (shown m.held) within _ _ let_go) ∙ shown-noted m.held (Wrote at xs)

pub stays : (h : Held) → Follow h h Stays
stays h = records_nothing h Stays (λ c. refl)

pub sync-follows : (h : Held) → Follow h (noted Synced h) Stays
sync-follows h = records_one h Synced Stays refl (λ c is. (shown h, inl refl, is))

synced : (h : Held) (c : List ℕ) → May (noted Synced h) c → c ≡ shown (noted Synced h)
synced h c (inl is) = is
synced h c (inr left) = Outcome-pushed h.events Synced h.first (λ d. d ≡ h.first) c left ∙ sym (shown-noted h Synced)

-- after a sync a crash leaves what a read gives
pub sync-lasts : (h : Held) → IsLasting true (Some (shown (noted Synced h))) (May (noted Synced h))
sync-lasts h = λ _ c. (synced h c, λ is. inl is)

pub resize-follows : (h : Held) (n : ℕ) → Follow h (noted (Resized n) h) (Relength n)
resize-follows h n = records_one h (Resized n) (Relength n) (resized-outcome n (shown h)) (λ c (d, could, step). (d, inr could, step))

pub resize-nothing : (h : Held) (n : ℕ) → Follow h h (Relength n)
resize-nothing h n = records_nothing h (Relength n) (λ c. inl refl)

pub resize-shown : (h : Held) (n : ℕ) → shown (noted (Resized n) h) ≡ resized n (shown h)
resize-shown h n = shown-noted h (Resized n)

pub resize-long : (h : Held) (n : ℕ) → length (shown (noted (Resized n) h)) ≡ n
resize-long h n = ap length (resize-shown h n) ∙ length-resized n (shown h)

-- a call that failed was counted
pub counts-cause : (before now : ℕ) (failed : Bool) (T : Type 0) → before ≤ now → (T → failed ≡ true) → now ≡ counted_if failed before → HasCause before now T
counts-cause before now true T le is same = record { later = le; rose = λ t. omega arith }
counts-cause before now false T le is same = record { later = le; rose = λ t. absurd (false≢true (is t)) }

only_first : (b c : List ℕ) → LeftBy [] b c → c ≡ read_after [] b
unfolding read_after Outcome
only_first b c (inl is) = is
only_first b c (inr is) = is

-- before anything is recorded a crash leaves the bytes as they are
pub unrecorded-lasts : (h : Held) → h.events ≡ [] → IsLasting true (Some (shown h)) (May h)
unrecorded-lasts h none = λ _ c.
    (subst (λ (es : List Event). LeftBy es h.first c → c ≡ read_after es h.first) (sym none) (only_first h.first c), λ is. inl is)
