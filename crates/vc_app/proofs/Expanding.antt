-- How `expand` keeps its promise.
use Rattle.std.proofs.Common.{◌≡◌, ◌⊎◌, ℕ, zero, suc, ◌≤◌, ◌<◌, ◌-◌, inl, inr, true, false, List, [], ◌∷◌, length, Option, Some, None, Result, Ok, Err, refl, sym, ap, ◌∙◌, subst, arith}
use Rattle.std.specs.Prelude.{Contains, if◌then◌else◌, IfSome, IsErrAnd, MatchOption, slice_index_or}
use Rattle.std.proofs.lemmas.Bool.Decides.{leb_tells}
use Rattle.vc_base.specs.Faults.{Rose}
use Rattle.vc_layout.specs.Kinds.{slots_of}
use Rattle.vc_layout.specs.declared.kind.Kind.{Kind}
use Rattle.vc_layout.specs.declared.kind.Kind.TheVariants.{StandardOnly}
use Rattle.vc_layout.specs.declared.slots.Slot.{Slot}
use Rattle.vc_layout.specs.declared.slots.Slot.TheVariants.{Standard}
use Rattle.vc_header.specs.Header.{Meets}
use Rattle.vc_header.specs.declared.fields.Fields.{Fields}
use Rattle.header_seal.specs.declared.opened.Opened.{Opened}
use Rattle.header_try.specs.declared.open_error.OpenError.{OpenError}
use Rattle.header_try.specs.declared.open_error.OpenError.TheVariants as opening
use Rattle.volume_format.specs.Formatted.{Sealing}
use Rattle.vc_outside.specs.Told.{Both}
use Rattle.header_change.specs.Moments.{After}
use Rattle.vol_expand.specs.Expanded.{is_expandable}
use Rattle.vol_expand.specs.Stops.{Carries, Expands, IsOpened, PartsStay}
use Rattle.vol_expand.proofs.Growing.{expandable, meets_longer, Expandable}
use Rattle.vol_expand.proofs.Opening.{carried_lasts, fits_container, old_or_new, opened_lasts}
use Rattle.vc_app.specs.declared.commands.expand.Expand.{Expand}
use Rattle.vc_app.specs.declared.commands.expand.ExpandError.{ExpandError}
use Rattle.vc_app.specs.declared.commands.expand.ExpandError.TheVariants.{Open}
use Rattle.vc_app.specs.declared.status.Status.{Status}
use Rattle.vc_app.specs.declared.status.Status.TheVariants.{BadSize}
use Rattle.vc_app.specs.Access.{opened, outcome_of}
use Rattle.vc_app.specs.Expand.{AtStop, expand_status, new_fields, outcome, plan_of, promise}
use Rattle.vc_app.specs.Promise.{goes, Kept, Promise, refused, Same, Seen}
use Rattle.vc_app.specs.Rewriting.{sealing}
use Rattle.vc_app.specs.Status.{ended, IsAfterWork, open_status}

-- ---- the standard header is opened

by_place : (slot : Slot) (k : ℕ) → k < 1 → slice_index_or (Standard ∷ []) k slot ≡ slot → slot ≡ Standard
by_place slot zero first is = sym is
by_place slot (suc k) first is = absurd (omega (arith, first))

pub only_standard : (kind : Kind) (slot : Slot) → kind ≡ StandardOnly → Contains (slots_of kind) slot → slot ≡ Standard
only_standard kind slot is there =
    let here : Contains (Standard ∷ []) slot = subst (λ (k : Kind). Contains (slots_of k) slot) is there in
    by_place slot here.0 here.1 here.2

-- ---- what comes of the opened volume

-- the container can't get the size
pub bad_size_comes : (command : Expand) (random : List ℕ) (o : Opened) (len : ℕ) (image : Option (List ℕ))
    → IfSome image (λ b. length b ≡ len) → IfSome image (λ b. opened command.access b ≡ Some o)
    → is_expandable len command.size o.fields.sector ≡ false
    → IfSome ((promise command random).plan image) (λ x. x ≡ refused BadSize)
bad_size_comes command random o len None whole is fails = tt
bad_size_comes command random o len (Some b) whole is fails =
    ap (outcome_of (λ o. outcome command random o b)) is
    ∙ ap (λ t. if t then goes (plan_of command random o b) else refused BadSize)
    (subst (λ (n : ℕ). is_expandable n command.size o.fields.sector ≡ false) (sym whole) fails)

-- it can
pub plan_comes : (command : Expand) (random : List ℕ) (o : Opened) (len : ℕ) (image : Option (List ℕ))
    → IfSome image (λ b. length b ≡ len) → IfSome image (λ b. opened command.access b ≡ Some o)
    → is_expandable len command.size o.fields.sector ≡ true
    → IfSome image (λ b. (opened command.access b ≡ Some o) × (outcome command random o b ≡ goes (plan_of command random o b)))
plan_comes command random o len None whole is can = tt
plan_comes command random o len (Some b) whole is can = (
  is,
  ap (λ t. if t then goes (plan_of command random o b) else refused BadSize)
      (subst (λ (n : ℕ). is_expandable n command.size o.fields.sector ≡ true) (sym whole) can),
)

-- ---- no header was opened

open_is_no_end : (e : OpenError) → ¬ IsAfterWork (open_status e)
open_is_no_end (opening.Length n) w = elim w [ inl e ↦ cc e | inr e ↦ cc e ]
open_is_no_end opening.NoHeader w = elim w [ inl e ↦ cc e | inr e ↦ cc e ]
open_is_no_end opening.ReadFault w = elim w [ inl e ↦ cc e | inr e ↦ cc e ]
open_is_no_end opening.NoMemory w = elim w [ inl e ↦ cc e | inr e ↦ cc e ]

pub unopened_is_no_end : (x : Result (Unit {0}) ExpandError) (e : OpenError) → IsErrAnd x (λ y. y ≡ Open e)
    → ¬ IsAfterWork (ended expand_status x)
unopened_is_no_end (Ok u) e error = absurd error
unopened_is_no_end (Err y) e error = λ w.
    open_is_no_end e (subst (λ (y : ExpandError). IsAfterWork (expand_status y)) error w)

-- the length that whole work leaves is of no matter then
pub whatever_is_left : (p : Promise) (left : ℕ → ℕ) (s : Status) (old new : Seen) → ¬ IsAfterWork s → Same old new
    → Kept p s old new → Kept (record p { length_left = left }) s old new
whatever_is_left p left s old new unfinished same kept = record {
  done = kept.done;
  front = kept.front;
  quiet = kept.quiet;
  quiet_fault = kept.quiet_fault;
  whole = λ w. absurd (unfinished w);
  same = kept.same;
  no_memory = λ _. inl same;
  within = kept.within;
  early = λ t h. kept.early t (record { refuses = h.refuses; comes = h.comes });
  refused = λ r. elim (kept.refused r) [
    | inl h ↦ inl (record { refuses = h.refuses; comes = h.comes })
    | inr h ↦ inr (record { admitted = h.admitted; named = h.named; comes = h.comes })
  ];
  possible = kept.possible;
  disk_cause = kept.disk_cause;
  out_cause = kept.out_cause;
  disk_count = kept.disk_count;
  out_count = kept.out_count;
  memory_counts = kept.memory_counts;
}

-- ---- what may differ

parts_known : (old new : Option (List ℕ)) (len : ℕ) → IfSome old (λ b. length b ≡ len)
    → Both old new (PartsStay 512 (len - 131072)) → Both old new (λ b c. PartsStay 512 (length b - 131072) b c)
parts_known None new len whole stay = tt
parts_known (Some b) None len whole stay = stay
parts_known (Some b) (Some c) len whole stay = subst (λ (n : ℕ). PartsStay 512 (n - 131072) b c) (sym whole) stay

pub parts_stay : (old middle new : Option (List ℕ)) (len middle_len : ℕ) → middle ≡ old → middle_len ≡ len
    → IfSome old (λ b. length b ≡ len) → Both middle new (PartsStay 512 (middle_len - 131072))
    → Both old new (λ b c. PartsStay 512 (length b - 131072) b c)
parts_stay old middle new len middle_len same long whole stay =
    parts_known old new len whole
    (subst (λ (x : Option (List ℕ)). Both x new (PartsStay 512 (len - 131072))) same
    (subst (λ (n : ℕ). Both middle new (PartsStay 512 (n - 131072))) long stay))

-- ---- what a crash leaves

nothing_differs : (until size : ℕ) (k : Sealing) (f : Fields) (c : List ℕ) → Expands until size k f c c
nothing_differs until size k f c = record {
  as_long = inl refl;
  parts = λ at n _ _ _. refl;
  either = inl (λ at n _ _ _. refl);
}

abbrev Since : Expand → Opened → ℕ → (List ℕ → Type 0) → List ℕ → Type 0
Since command o len could c =
    could c ⊎ After could (Expands (len - 131072) command.size (sealing command.access o) (new_fields command o)) c

-- the same length, by another name
pub at_length : (command : Expand) (o : Opened) (n len : ℕ) (could : List ℕ → Type 0) (c : List ℕ) → n ≡ len
    → could c ⊎ After could (Expands (n - 131072) command.size (sealing command.access o) (new_fields command o)) c
    → Since command o len could c
at_length command o n len could c same left = subst (λ (k : ℕ). Since command o k could c) same left

at_stop : (command : Expand) (o : Opened) (len : ℕ) (could : List ℕ → Type 0) (c : List ℕ)
    → Expandable len command.size o.fields.sector → Meets o.fields Standard len → Since command o len could c
    → (b : List ℕ) → length b ≡ len → AtStop command o b could c
at_stop command o len could c can meets since b whole = record {
  differs = subst (λ (n : ℕ). After could (Expands (n - 131072) command.size (sealing command.access o) (new_fields command o)) c)
      (sym whole) (elim since [
        | inl there ↦ (c, there, nothing_differs (len - 131072) command.size (sealing command.access o) (new_fields command o) c)
        | inr after ↦ after
      ]);
  carries = λ at_start. old_or_new Carries o.fields len command.size (carried_lasts o.fields command.size) can meets
      (sealing command.access o) true (Some b) could (Since command o len could) whole (λ _ x h. h) refl
      (sealing command.access o) at_start c since;
  opens = λ at_start. old_or_new IsOpened o.fields len command.size
      (opened_lasts o.fields command.size (fits_container o.fields len command.size can meets)
      (meets_longer o.fields len command.size (omega (arith, can.longer)) meets)) can meets
      (sealing command.access o) true (Some b) could (Since command o len could) whole (λ _ x h. h) refl
      (sealing command.access o) at_start c since;
}

pub stops_known : (command : Expand) (o : Opened) (len : ℕ) (could : List ℕ → Type 0) (c : List ℕ) (image : Option (List ℕ))
    → IfSome image (λ b. length b ≡ len) → IfSome image (λ b. opened command.access b ≡ Some o)
    → is_expandable len command.size o.fields.sector ≡ true → Meets o.fields Standard len → Since command o len could c
    → IfSome image (λ b. MatchOption (opened command.access b) ⊥ (λ o. AtStop command o b could c))
stops_known command o len could c None whole is can meets since = tt
stops_known command o len could c (Some b) whole is can meets since =
    subst (λ (x : Option Opened). MatchOption x ⊥ (λ o. AtStop command o b could c)) (sym is)
    (at_stop command o len could c (expandable len command.size o.fields.sector can) meets since b whole)

-- ---- the count of faults

pub rose_since : (n m : ℕ) → n ≤ m → (m ≡ n → ⊥) → Rose n m
rose_since n m later other = elim (leb_tells (suc n) m) [
  | inl more ↦ omega (arith, more.1)
  | inr same ↦ absurd (other (omega (arith, same.1, later)))
]
