-- Calls one after another, and what a crash may leave at each moment of them.
use Rattle.std.proofs.Common.{◌≡◌, ℕ, Bool, true, List, sym, subst, arith, inl, inr}
use Rattle.std.specs.Prelude.{◌⊎◌}
use Rattle.vc_outside.specs.Crash.{Outcomes, Stays}
use Rattle.header_change.specs.Moments.{After, AtEachMoment}

-- one call of the store
pub of_call : (tells : Bool) (before now : ℕ) (past since : ℕ → List ℕ → Type 0) (could can : List ℕ → Type 0)
    (step : List ℕ → List ℕ → Type 0) → Outcomes tells before now past since could can step
    → AtEachMoment tells before now past since could can step
of_call tells before now past since could can step one = record {
  follows = one.follows;
  later = one.later;
  nothing_else = λ modelled t c from left.
      elim (one.nothing_else modelled t c from left) [
        | inl earlier ↦ inl earlier
        | inr now_left ↦ inr (one.follows modelled c now_left)
      ];
  keeps = one.keeps;
}

-- Two of them: what each does to the outcomes is what both do.
pub in_turn : (tells : Bool) (before middle now : ℕ) (first second third : ℕ → List ℕ → Type 0)
    (could between can : List ℕ → Type 0) (early late step : List ℕ → List ℕ → Type 0)
    → (tells ≡ true → (c : List ℕ) → After could early c → After could step c)
    → (tells ≡ true → (c : List ℕ) → After between late c → After could step c)
    → AtEachMoment tells before middle first second could between early
    → AtEachMoment tells middle now second third between can late
    → AtEachMoment tells before now first third could can step
in_turn tells before middle now first second third could between can early late step by_one by_two one two = record {
  follows = λ modelled c left. by_two modelled c (two.follows modelled c left);
  later = λ modelled. omega (arith, one.later modelled, two.later modelled);
  nothing_else = λ modelled t c from left.
      elim (two.nothing_else modelled t c (omega (arith, one.later modelled, from)) left) [
        | inl earlier ↦ elim (one.nothing_else modelled t c from earlier) [
          | inl past ↦ inl past
          | inr of_one ↦ inr (by_one modelled c of_one)
        ]
        | inr of_two ↦ inr (by_two modelled c of_two)
      ];
  keeps = λ modelled t c from past.
      two.keeps modelled t c (omega (arith, one.later modelled, from)) (one.keeps modelled t c from past);
}

-- a sync after a call adds nothing
pub then_sync : (tells : Bool) (before middle now : ℕ) (first second third : ℕ → List ℕ → Type 0)
    (could between can : List ℕ → Type 0) (step : List ℕ → List ℕ → Type 0)
    → Outcomes tells before middle first second could between step
    → Outcomes tells middle now second third between can Stays
    → AtEachMoment tells before now first third could can step
then_sync tells before middle now first second third could between can step one two =
    in_turn tells before middle now first second third could between can step Stays step
    (λ _ c after. after)
    (λ modelled c after. subst (After could step) (sym after.2) (one.follows modelled after.0 after.1))
    (of_call tells before middle first second could between step one)
    (of_call tells middle now second third between can Stays two)

-- the step may be a weaker one
pub weaker : (tells : Bool) (before now : ℕ) (past since : ℕ → List ℕ → Type 0) (could can : List ℕ → Type 0)
    (step wider : List ℕ → List ℕ → Type 0) → (tells ≡ true → (c : List ℕ) → After could step c → After could wider c)
    → AtEachMoment tells before now past since could can step
    → AtEachMoment tells before now past since could can wider
weaker tells before now past since could can step wider by one = record {
  follows = λ modelled c left. by modelled c (one.follows modelled c left);
  later = one.later;
  nothing_else = λ modelled t c from left.
      elim (one.nothing_else modelled t c from left) [
        | inl earlier ↦ inl earlier
        | inr after ↦ inr (by modelled c after)
      ];
  keeps = one.keeps;
}

-- since the call's start: an outcome at its start, or one of those after a step
pub since_start : (tells : Bool) (before now : ℕ) (past since : ℕ → List ℕ → Type 0) (could can : List ℕ → Type 0)
    (step : List ℕ → List ℕ → Type 0) → AtEachMoment tells before now past since could can step
    → (tells ≡ true → (c : List ℕ) → past before c → could c)
    → tells ≡ true → (c : List ℕ) → since before c → could c ⊎ After could step c
since_start tells before now past since could can step one no_later modelled c left =
    elim (one.nothing_else modelled before c (omega arith) left) [
      | inl earlier ↦ inl (no_later modelled c earlier)
      | inr after ↦ inr after
    ]
