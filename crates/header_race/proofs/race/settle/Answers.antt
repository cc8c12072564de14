use Rattle.std.proofs.Common.{◌≡◌, ℕ, suc, ◌+◌, refl, subst, arith}
use Rattle.header_race.specs.Laws.Race.{IsOutcome, NoneBefore}
use Rattle.header_race.proofs.Settling.{none_yet, one_more, cannot_have_stopped, ran_at}
use Rattle.header_race.proofs.race.settle.Goals as goal

pub loop-task-init : goal.loop-task-init
loop-task-init c = none_yet c.args.least.now.key.names

pub returns-in-Valid : goal.returns-in-Valid
returns-in-Valid c =
    let r = c.args.least.now.key.names in let t = c.task-item.result in let i = c.loop-task.task-index in
    let ran = ran_at r c.args.tasks.now i t c.requires c.loop-task-test.true c.task-item.is in
    let outcome = subst (IsOutcome r i t.entrant) c.in-Valid.is ran.1 in
    record {
      derivation = i;
      entrant = t.entrant;
      at = ran.0;
      before = c.loop-task.invariant;
      slot = refl;
      prf = refl;
      wins = outcome.0;
      has = outcome.1;
    }

pub unreachable-requires : goal.unreachable-requires
unreachable-requires c =
    let r = c.args.least.now.key.names in let t = c.task-item.result in let i = c.loop-task.task-index in
    let ran = ran_at r c.args.tasks.now i t c.requires c.loop-task-test.true c.task-item.is in
    let outcome = subst (IsOutcome r i t.entrant) c.in-Stopped.is ran.1 in
    cannot_have_stopped r i c.in-Stopped.field-0 c.loop-task.invariant outcome.0 outcome.1

pub loop-task-preserved : goal.loop-task-preserved
loop-task-preserved c =
    let r = c.args.least.now.key.names in let t = c.task-item.result in let i = c.loop-task.task-index in
    let ran = ran_at r c.args.tasks.now i t c.requires c.loop-task-test.true c.task-item.is in
    let outcome = subst (IsOutcome r i t.entrant) c.in-NoneValid.is ran.1 in
    let next : suc i ≡ i + 1 = omega arith in
    subst (λ (n : ℕ). NoneBefore r n) next (one_more r i t.entrant c.loop-task.invariant ran.0 outcome)

pub returns : goal.returns
returns c =
    let long = c.requires.0 in
    λ k e lt at. c.loop-task.invariant k e (omega (arith, lt, long, c.loop-task-test.false)) at
