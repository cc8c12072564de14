-- Calls one after another, and what a crash may leave at each moment of them.
use Rattle.std.proofs.Common.{◌≡◌, ◌≤◌, ℕ, Bool, true, List, sym, subst, arith, inl}
use Rattle.vc_outside.specs.Crash.{Outcomes, Relength, Stays}
use Rattle.vc_outside.specs.Told.{SameOutside}
use Rattle.vc_header.specs.declared.fields.Fields.{Fields}
use Rattle.volume_format.specs.Formatted.{Sealing}
use Rattle.header_change.specs.Moments.{After, AtEachMoment}
use Rattle.header_change.proofs.Moments.{in_turn, of_call, weaker}
use Rattle.vol_expand.specs.Stops.{Expands, Grows}
use Rattle.vol_expand.proofs.Parts.{grows_by_length, grows_by_write, grows_first, grows_only, grows_then}

-- no call at all
pub nothing_done : (tells : Bool) (now : ℕ) (past : ℕ → List ℕ → Type 0) (could : List ℕ → Type 0)
    (step : List ℕ → List ℕ → Type 0) → ((c : List ℕ) → step c c) → AtEachMoment tells now now past past could could step
nothing_done tells now past could step same = record {
  follows = λ _ c left. (c, left, same c);
  later = λ _. omega arith;
  nothing_else = λ _ t c from left. inl left;
  keeps = λ _ t c from left. left;
}

-- steps of two calls, which together are a step of both
pub one_then : (tells : Bool) (before middle now : ℕ) (first second third : ℕ → List ℕ → Type 0)
    (could between can : List ℕ → Type 0) (early late step : List ℕ → List ℕ → Type 0)
    → ((a b : List ℕ) → early a b → step a b)
    → ((a b c : List ℕ) → early a b → late b c → step a c)
    → AtEachMoment tells before middle first second could between early
    → AtEachMoment tells middle now second third between can late
    → AtEachMoment tells before now first third could can step
one_then tells before middle now first second third could between can early late step alone both one two =
    in_turn tells before middle now first second third could between can early late step
    (λ _ c after. (after.0, after.1, alone after.0 c after.2))
    (λ modelled c after. and_both modelled c after)
    one two
  where
    and_both : tells ≡ true → (c : List ℕ) → After between late c → After could step c
    and_both modelled c after =
        let first_step : After could early after.0 = one.follows modelled after.0 after.1 in
        (first_step.0, first_step.1, both first_step.0 after.0 c first_step.2 after.2)

-- a sync adds nothing
pub then_synced : (step : List ℕ → List ℕ → Type 0) (tells : Bool) (before middle now : ℕ)
    (first second third : ℕ → List ℕ → Type 0) (could between can : List ℕ → Type 0)
    → AtEachMoment tells before middle first second could between step
    → Outcomes tells middle now second third between can Stays
    → AtEachMoment tells before now first third could can step
then_synced step tells before middle now first second third could between can one two =
    one_then tells before middle now first second third could between can step Stays step
    (λ a b done. done)
    (λ a b c done same. subst (step a) (sym same) done)
    one (of_call tells middle now second third between can Stays two)

-- up to the first sync
pub grown_only : (k : Sealing) (f : Fields) (until size : ℕ) → 512 ≤ until → (tells : Bool) (before now : ℕ)
    (past since : ℕ → List ℕ → Type 0) (could can : List ℕ → Type 0)
    → AtEachMoment tells before now past since could can (Grows until size)
    → AtEachMoment tells before now past since could can (Expands until size k f)
grown_only k f until size header tells before now past since could can one =
    weaker tells before now past since could can (Grows until size) (Expands until size k f)
    (λ _ c after. (after.0, after.1, grows_only k f until size after.0 c header after.2)) one

-- a write behind what stays
pub then_written : (until size place n : ℕ) → until ≤ place → until ≤ size → (tells : Bool) (before middle now : ℕ)
    (first second third : ℕ → List ℕ → Type 0) (could between can : List ℕ → Type 0)
    → AtEachMoment tells before middle first second could between (Grows until size)
    → Outcomes tells middle now second third between can (SameOutside place n)
    → AtEachMoment tells before now first third could can (Grows until size)
then_written until size place n below fits tells before middle now first second third could between can one two =
    one_then tells before middle now first second third could between can (Grows until size) (SameOutside place n)
    (Grows until size)
    (λ a b done. done)
    (λ a b c done same. grows_then until size a b c fits done (grows_by_write until size place n b c below same))
    one (of_call tells middle now second third between can (SameOutside place n) two)

-- a new length alone
pub lengthened : (k : Sealing) (f : Fields) (until size : ℕ) → 512 ≤ until → until ≤ size → (tells : Bool) (before now : ℕ)
    (past since : ℕ → List ℕ → Type 0) (could can : List ℕ → Type 0)
    → Outcomes tells before now past since could can (Relength size)
    → AtEachMoment tells before now past since could can (Expands until size k f)
lengthened k f until size header fits tells before now past since could can one =
    weaker tells before now past since could can (Relength size) (Expands until size k f)
    (λ _ c after. (
      after.0,
      after.1,
      grows_only k f until size after.0 c header (grows_by_length until size after.0 c fits after.2),
    ))
    (of_call tells before now past since could can (Relength size) one)

-- a new length, and what follows
pub length_then : (k : Sealing) (f : Fields) (until size : ℕ) → 512 ≤ until → until ≤ size → (tells : Bool)
    (before middle now : ℕ) (first second third : ℕ → List ℕ → Type 0) (could between can : List ℕ → Type 0)
    → Outcomes tells before middle first second could between (Relength size)
    → AtEachMoment tells middle now second third between can (Expands until size k f)
    → AtEachMoment tells before now first third could can (Expands until size k f)
length_then k f until size header fits tells before middle now first second third could between can one two =
    one_then tells before middle now first second third could between can (Relength size) (Expands until size k f)
    (Expands until size k f)
    (λ a b step. grows_only k f until size a b header (grows_by_length until size a b fits step))
    (λ a b c step more. grows_first k f until size a b c header fits (grows_by_length until size a b fits step) more)
    (of_call tells before middle first second could between (Relength size) one) two
