-- How a command that writes headers of an opened volume keeps its promise.
--
-- Opening lets a crash leave nothing more, so what a crash leaves at any moment since the command began, or now, is
-- what it might leave then, or one of these after a step of the headers' change.
use Rattle.std.proofs.Common.{◌≡◌, ◌⊎◌, ℕ, Bool, true, List, Option, Some, None, refl, sym, ◌∙◌, inl, inr, subst, arith}
use Rattle.std.specs.Prelude.{IfSome, MatchOption}
use Rattle.vc_layout.specs.declared.slots.Slot.{Slot}
use Rattle.vc_header.specs.declared.fields.Fields.{Fields}
use Rattle.header_seal.specs.declared.opened.Opened.{Opened}
use Rattle.volume_format.specs.Formatted.{Sealing}
use Rattle.vc_outside.specs.Crash.{Outcomes, Stays}
use Rattle.vc_outside.specs.Told.{Both}
use Rattle.header_change.specs.Moments.{After, AtEachMoment, Changes, HasFields, IsOpen}
use Rattle.header_change.specs.Pair.{backup_of, OnlyPair, OnlyPrimary, primary_of}
use Rattle.header_change.proofs.Slots.{no_change}
use Rattle.header_change.proofs.Steps.{fields_last, openings_last, stays_in_backup, stays_in_either}
use Rattle.vc_app.specs.declared.access.Access.{Access}
use Rattle.vc_app.specs.Access.{opened}
use Rattle.vc_app.specs.Promise.{InPart, MayBeLeft, Seen}
use Rattle.vc_app.specs.Rewriting.{AtStop, OfHeader}

-- what a crash leaves since the command began, or now, if it opened a header before its step
pub reached : (tells : Bool) (start middle now : ℕ) (first second third : ℕ → List ℕ → Type 0) (could between can : List ℕ → Type 0)
    (step : List ℕ → List ℕ → Type 0) → (tells ≡ true → (c : List ℕ) → first start c → could c)
    → Outcomes tells start middle first second could between Stays
    → AtEachMoment tells middle now second third between can step
    → tells ≡ true → (c : List ℕ) → third start c ⊎ can c → could c ⊎ After could step c
reached tells start middle now first second third could between can step only_now one two modelled c left =
    elim left [
      | inl since ↦ elim (two.nothing_else modelled start c (one.later modelled) since) [
        | inl earlier ↦ inl (elim (one.nothing_else modelled start c (omega arith) earlier) [
          | inl past ↦ only_now modelled c past
          | inr may ↦ was c may
        ])
        | inr after ↦ inr (after.0, was after.0 after.1, after.2)
      ]
      | inr can_now ↦ let after = two.follows modelled c can_now in inr (after.0, was after.0 after.1, after.2)
    ]
  where
    was : (d : List ℕ) → between d → could d
    was d may = let step = one.follows modelled d may in subst could (sym step.2) step.1

pub pair_at_stop : (slot : Slot) (old k : Sealing) (f : Fields) (could : List ℕ → Type 0) (c : List ℕ)
    → could c ⊎ After could (Changes slot k f) c
    → AtStop (OnlyPair slot) (λ P. ((d : List ℕ) → could d → P (backup_of slot) old f d)
    → P (backup_of slot) old f c ⊎ P (primary_of slot) k f c) could c
pair_at_stop slot old k f could c left = record {
  differs = elim left [ inl there ↦ (c, there, no_change slot c) | inr after ↦ (after.0, after.1, after.2.only) ];
  carries = λ at_start. stays_in_either HasFields fields_last true could (λ x. could x ⊎ After could (Changes slot k f) x) slot k f
      (λ _ x h. h) refl old at_start c left;
  opens = λ at_start. stays_in_either IsOpen openings_last true could (λ x. could x ⊎ After could (Changes slot k f) x) slot k f
      (λ _ x h. h) refl old at_start c left;
}

pub primary_at_stop : (slot : Slot) (old : Sealing) (f : Fields) (could : List ℕ → Type 0) (c : List ℕ)
    → could c ⊎ After could (OnlyPrimary slot) c
    → AtStop (OnlyPrimary slot) (λ P. ((d : List ℕ) → could d → P (backup_of slot) old f d) → P (backup_of slot) old f c) could c
primary_at_stop slot old f could c left = record {
  differs = elim left [ inl there ↦ (c, there, record { as_long = refl; before = refl; after = refl }) | inr after ↦ after ];
  carries = λ at_start. stays_in_backup HasFields fields_last true could (λ x. could x ⊎ After could (OnlyPrimary slot) x) slot f
      (λ _ x h. h) refl old at_start c left;
  opens = λ at_start. stays_in_backup IsOpen openings_last true could (λ x. could x ⊎ After could (OnlyPrimary slot) x) slot f
      (λ _ x h. h) refl old at_start c left;
}

-- what is made of the bytes before
made_of : (b : List ℕ) (new : Option (List ℕ)) (f h : List ℕ → List ℕ) → f b ≡ h b → Both (Some b) new (λ b c. c ≡ f b)
    → Both (Some b) new (λ _ c. c ≡ h b)
made_of b None f h is made = made
made_of b (Some c) f h is made = made ∙ is

pub made_of_known : (old middle new : Option (List ℕ)) (f h : List ℕ → List ℕ) → middle ≡ old → ((b : List ℕ) → f b ≡ h b)
    → Both middle new (λ b c. c ≡ f b) → IfSome old (λ b. Both old new (λ _ c. c ≡ h b))
made_of_known None middle new f h same is made = tt
made_of_known (Some b) middle new f h same is made =
    made_of b new f h (is b) (subst (λ (x : Option (List ℕ)). Both x new (λ b c. c ≡ f b)) same made)

-- ---- the header that is opened

-- what holds of the opened header, if the container's bytes are known
of_opened : (access : Access) (o : Opened) (P : List ℕ → Opened → Type 0) (image : Option (List ℕ))
    → IfSome image (λ b. opened access b ≡ Some o) → ((b : List ℕ) → P b o) → IfSome image (λ b. MatchOption (opened access b) ⊥ (P b))
of_opened access o P None is h = tt
of_opened access o P (Some b) is h = subst (λ (x : Option Opened). MatchOption x ⊥ (P b)) (sym is) (h b)

both_of_opened : (access : Access) (o : Opened) (only : Opened → List ℕ → List ℕ → Type 0) (old new : Option (List ℕ))
    → IfSome old (λ b. opened access b ≡ Some o) → Both old new (only o)
    → Both old new (λ b c. MatchOption (opened access b) ⊥ (λ o. only o b c))
both_of_opened access o only None new is h = tt
both_of_opened access o only (Some b) None is h = h
both_of_opened access o only (Some b) (Some c) is h = subst (λ (x : Option Opened). MatchOption x ⊥ (λ o. only o b c)) (sym is) h

pub in_slots : (access : Access) (only : Opened → List ℕ → List ℕ → Type 0) (stays : Opened → (List ℕ → Type 0) → List ℕ → OfHeader → Type 0)
    (o : Opened) (old new : Seen) → IfSome old.image (λ b. opened access b ≡ Some o) → Both old.image new.image (only o)
    → new.size ≡ old.size
    → (new.tells ≡ true → (c : List ℕ) → MayBeLeft old new c → AtStop (only o) (stays o old.may_leave c) old.may_leave c)
    → InPart (λ b c. MatchOption (opened access b) ⊥ (λ o. only o b c))
    (λ b could c. MatchOption (opened access b) ⊥ (λ o. AtStop (only o) (stays o could c) could c)) old new
in_slots access only stays o old new is outside size crash = record {
  outside = both_of_opened access o only old.image new.image is outside;
  size = size;
  crash = λ modelled c left.
      of_opened access o (λ b o. AtStop (only o) (stays o old.may_leave c) old.may_leave c) old.image is (λ b. crash modelled c left);
}
