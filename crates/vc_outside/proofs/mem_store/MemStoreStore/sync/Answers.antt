use Rattle.std.proofs.Common.{◌≡◌, ℕ, List, Some, None, refl, true, false, length, sym, subst, ap}
use Rattle.vc_outside.specs.Crash.{IsLasting, Stays}
use Rattle.vc_outside.specs.Memory.{called, May, Memory, shown}
use Rattle.vc_outside.specs.Record.{Synced}
use Rattle.vc_outside.proofs.Results.{each, weaken}
use Rattle.vc_outside.proofs.Steps.{Follow, shown-noted, stays, sync-follows, sync-lasts}
use Rattle.vc_outside.proofs.mem_store.MemStoreStore.sync.Goals as goal

pub returns-clause-lasting : goal.returns-clause-lasting
returns-clause-lasting c =
    let old = c.args.self.now in
    let new = c.sync_by_plan.new.self in
    let P : Memory → Type 0 = λ m. IsLasting true (Some (shown m.held)) (May m.held) in
    weaken c.sync_by_plan.result (new ≡ called (Some Synced) false old) (P new) c.sync_by_plan.ensures.ok (λ is. subst P (sym is) (sync-lasts old.held))

pub returns-clause-image : goal.returns-clause-image
returns-clause-image c =
    let old = c.args.self.now in
    let new = c.sync_by_plan.new.self in
    let P : Memory → Type 0 = λ m. Some (shown m.held) ≡ Some (shown old.held) in
    each c.sync_by_plan.result (new ≡ called (Some Synced) false old) (new ≡ called None true old) (P new) c.sync_by_plan.ensures.ok c.sync_by_plan.ensures.failed
    (λ is. subst P (sym is) (ap (λ (l : List ℕ). Some l) (shown-noted old.held Synced)))
    (λ is. subst P (sym is) refl)

pub returns-clause-size : goal.returns-clause-size
returns-clause-size c =
    let old = c.args.self.now in
    let new = c.sync_by_plan.new.self in
    let P : Memory → Type 0 = λ m. length (shown m.held) ≡ length (shown old.held) in
    each c.sync_by_plan.result (new ≡ called (Some Synced) false old) (new ≡ called None true old) (P new) c.sync_by_plan.ensures.ok c.sync_by_plan.ensures.failed
    (λ is. subst P (sym is) (ap length (shown-noted old.held Synced)))
    (λ is. subst P (sym is) refl)

pub returns-clause-crash : goal.returns-clause-crash
returns-clause-crash c =
    let old = c.args.self.now in
    let new = c.sync_by_plan.new.self in
    let P : Memory → Type 0 = λ m. Follow old.held m.held Stays in
    each c.sync_by_plan.result (new ≡ called (Some Synced) false old) (new ≡ called None true old) (P new) c.sync_by_plan.ensures.ok c.sync_by_plan.ensures.failed
    (λ is. subst P (sym is) (sync-follows old.held))
    (λ is. subst P (sym is) (stays old.held))
