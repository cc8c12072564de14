-- What the outcomes of a race say together.
--
-- Go through the derivations in order. As long as each ended with no valid candidate, none that was passed has one.
-- A derivation that stopped then can't come: it names a valid candidate of a derivation that was passed. So the
-- first outcome that isn't 'none' is a valid candidate, and the first one.
use Rattle.std.proofs.Common.{◌≡◌, ℕ, suc, ◌+◌, ◌*◌, ◌<◌, Bool, true, false, List, length, Option, Some, None, sym, ap, ◌∙◌, subst, arith}
use mathlib.Core.Logic.{dite}
use native.Mathlib.Decide.{ℕ_discrete}
use Rattle.std.specs.Prelude.{slice_index_or}
use Rattle.algorithm_names.specs.declared.algorithm.Algorithm.{Algorithm}
use Rattle.algorithm_names.specs.Algorithms.{all_algorithms, number_of}
use Rattle.header_race.specs.declared.entrant.Entrant.{Entrant}
use Rattle.header_race.specs.declared.entrant.Numbers.{Numbers}
use Rattle.header_race.specs.declared.task.Task.{Task}
use Rattle.header_race.specs.Laws.Race.{entrants_of, passes, winner, HasRun, HaveRun, IsAt, IsOutcome, IsValidNumber, NoneBefore}
use Rattle.header_race.proofs.Firsts.{found_passes, all_fail}

module _ (r : Numbers) where
  -- the least valid candidate of a derivation may be offered
  pub may_be_offered : (i : ℕ) (e : Entrant) (a : Algorithm) (n : ℕ) → IsAt r i e → winner r e ≡ Some a
      → n ≡ 8 * i + number_of a → IsValidNumber r n
  may_be_offered i e a n at wins is = record {
    derivation = i;
    entrant = e;
    algorithm = a;
    at = at;
    number = is;
    valid = found_passes (passes r e) all_algorithms a wins;
  }

  -- one place has one derivation
  same_place : (i j : ℕ) (e e' : Entrant) → i ≡ j → IsAt r i e → IsAt r j e' → e ≡ e'
  same_place i j e e' same at at' =
      sym (at.is e) ∙ ap (λ (k : ℕ). slice_index_or (entrants_of r) k e) same ∙ at'.is e

  pub none_yet : NoneBefore r 0
  none_yet k e lt at = absurd (omega (arith, lt))

  pub one_more : (i : ℕ) (e : Entrant) → NoneBefore r i → IsAt r i e → winner r e ≡ None → NoneBefore r (suc i)
  one_more i e before at none k e' lt at' = dite (ℕ_discrete k i)
      (λ here. subst (λ (x : Entrant). winner r x ≡ None) (sym (same_place k i e' e here at' at)) none)
      (λ else. before k e' (omega (arith, lt, else)) at')

  -- none of the derivations before i has a valid candidate, so no number below theirs is valid
  pub cannot_have_stopped : (i n : ℕ) → NoneBefore r i → n < 8 * i → IsValidNumber r n → ⊥
  cannot_have_stopped i n before lt v =
      let number = v.number in
      let earlier : v.derivation < i = omega (arith, lt, number) in
      let fails : passes r v.entrant v.algorithm ≡ false
      = all_fail (passes r v.entrant) (before v.derivation v.entrant earlier v.at) v.algorithm in
      let both : true ≡ false = sym v.valid ∙ fails in cc

  -- a task after it ran, by its place
  pub ran_at : (ts : List Task) (i : ℕ) (t : Task) → HaveRun r ts → i < length ts → t ≡ slice_index_or ts i t
      → IsAt r i t.entrant × IsOutcome r i t.entrant t.outcome
  ran_at ts i t ran lt is =
      let here : HasRun r t × (t.number ≡ i)
      = subst (λ (x : Task). HasRun r x × (x.number ≡ i)) (sym is) (ran.1 i t lt) in
      let done = here.0 in (
        subst (λ (n : ℕ). IsAt r n t.entrant) here.1 done.at,
        subst (λ (n : ℕ). IsOutcome r n t.entrant t.outcome) here.1 done.outcome,
      )
