use Rattle.std.proofs.Common.{◌∙◌, ℕ, [], false, inr, List, Option, refl, ap, subst, arith}
use Rattle.std.specs.Prelude.{MatchOption}
use Rattle.vc_base.specs.Faults.{Rose}
use Rattle.rand_chacha.specs.ChaCha.{ChaCha, of_seed}
use Rattle.header_change.specs.Changed.{restored}
use Rattle.header_change.specs.Pair.{OnlyPrimary}
use Rattle.vc_outside.specs.Told.{Both}
use Rattle.vc_app.specs.declared.commands.restore.RestoreError.TheVariants.{Open, Work}
use Rattle.vc_app.specs.Access.{opened}
use Rattle.vc_app.specs.Format.{done_line}
use Rattle.vc_app.specs.Promise.{goes, InPart, Kept, seen, Within}
use Rattle.vc_app.specs.Restore.{BackupStays, promise, restore_status}
use Rattle.vc_app.specs.Rewriting.{AtStop, sealing}
use Rattle.vc_app.specs.Status.{ended, work_status}
use Rattle.vc_app.proofs.PromiseIsKept.{all_done, fault_kept, on_ok_map, passed_on}
use Rattle.vc_app.proofs.Reading.{both_known, opened_kept, opening_failed, whatever}
use Rattle.vc_app.proofs.Rewriting.{in_slots, made_of_known, primary_at_stop, reached}
use Rattle.vc_app.proofs.commands.restore.run_restore.Given.{Over}
use Rattle.vc_app.proofs.commands.restore.run_restore.Goals.{After-finish, After-restore}
use Rattle.vc_app.proofs.commands.restore.run_restore.Goals as goal

pub returns-in_err-opened : goal.returns-in_err-opened
returns-in_err-opened g c =
    opening_failed restore_status (λ e. Open e) c.args.access.now [] false _ _ c.open.result
    c.in_err-opened.field-0.0 c.from_residual.result _ _ c.in_err-opened.was c.from_residual.ensures.1 refl
    (record { contents = refl; disk_later = c.open.ensures.later; out_same = refl })
    (record { same = record { image = c.open.ensures.image; size = c.open.ensures.size }; crash = c.open.ensures.crash })
    c.open.ensures.unopened

-- only bytes of the slot may differ, and the backup opens after a crash
slot : (g : Over) (c : After-restore g)
    → InPart (λ b x. MatchOption (opened c.args.access.now b) ⊥ (λ o. OnlyPrimary o.slot b x))
    (λ b could x. MatchOption (opened c.args.access.now b) ⊥ (λ o. AtStop (OnlyPrimary o.slot) (BackupStays c.args.access.now o could x) could x))
    (seen g.D.Store g.O.Sink c.args.disk.now c.args.out.now) (seen g.D.Store g.O.Sink c.restore.new.disk c.args.out.now)
slot g c =
    let access = c.args.access.now in
    let o = c.in_ok-opened.opened in
    let old = seen g.D.Store g.O.Sink c.args.disk.now c.args.out.now in
    let new = seen g.D.Store g.O.Sink c.restore.new.disk c.args.out.now in
    in_slots access (λ o. OnlyPrimary o.slot) (BackupStays access) o old new c.in_ok-opened.ensures.opened
    (subst (λ (x : Option (List ℕ)). Both x new.image (OnlyPrimary o.slot)) c.open.ensures.image c.restore.ensures.outside)
    (c.restore.ensures.size ∙ c.open.ensures.size)
    (λ modelled x left. primary_at_stop o.slot (sealing access o) o.fields old.may_leave x
    (reached _ _ _ _ _ _ _ _ _ _ _ (λ modelled x left. g.met.D.Store.only_now modelled c.args.disk.now x left)
    c.open.ensures.crash c.restore.ensures.crash modelled x left))

pub returns-in-Err : goal.returns-in-Err
returns-in-Err g c =
    let rose : Rose (g.D.Store.faults c.open.new.disk) (g.D.Store.faults c.restore.new.disk) = c.in-Err.ensures.cause.rose refl in
    fault_kept (promise c.args.access.now c.args.random) (seen g.D.Store g.O.Sink c.args.disk.now c.args.out.now)
    (seen g.D.Store g.O.Sink c.restore.new.disk c.args.out.now)
    (λ t early. early.refuses c.in_ok-opened.ensures.in_range) (inr (slot g (goal.at.returns-in-Err g c).After-restore))
    (record { contents = refl; disk_later = omega (arith, c.open.ensures.later, c.restore.ensures.cause.later); out_same = refl })
    (omega (arith, c.open.ensures.later, rose))

-- the work is whole
restored_kept : (g : Over) (c : After-finish g) → Within (promise c.args.access.now c.args.random).reach
    (seen g.D.Store g.O.Sink c.args.disk.now c.args.out.now) (seen g.D.Store g.O.Sink c.restore.new.disk c.finish.new.out)
    → Kept (promise c.args.access.now c.args.random) (ended work_status c.finish.result)
    (seen g.D.Store g.O.Sink c.args.disk.now c.args.out.now) (seen g.D.Store g.O.Sink c.restore.new.disk c.finish.new.out)
restored_kept g c within =
    let access = c.args.access.now in
    let o = c.in_ok-opened.opened in
    let image = g.D.Store.image c.args.disk.now in
    let made : List ℕ → List ℕ = restored (of_seed c.args.random) (sealing access o) o in
    opened_kept access [] false _ (λ o image. goes (record { image = restored (of_seed c.args.random) (sealing access o) o image; output = done_line }))
    (λ b. record { image = made b; output = done_line }) o
    c.finish.result c.new-counts.result.disk c.new-counts.result.out
    (seen g.D.Store g.O.Sink c.args.disk.now c.args.out.now) (seen g.D.Store g.O.Sink c.restore.new.disk c.finish.new.out)
    c.new-counts.ensures.disk c.new-counts.ensures.out c.finish.ensures.settled c.in_ok-opened.ensures.in_range
    (both_known image _ _ c.in_ok-opened.ensures.opened (λ b. refl))
    (made_of_known image (g.D.Store.image c.open.new.disk) (g.D.Store.image c.restore.new.disk)
    (restored c.from_seed-rng.result (sealing access o) o) made c.open.ensures.image
    (λ b. ap (λ (rng : ChaCha). restored rng (sealing access o) o b) c.from_seed-rng.ensures) c.in-Ok.ensures.restored)
    (c.restore.ensures.size ∙ c.open.ensures.size) c.in-Ok.ensures.lasting within
    (on_ok_map c.finish.result (whatever image) c.finish.ensures.done) (whatever image c.finish.ensures.front)
    (λ e _. c.finish.ensures.quiet e)

pub returns-in_err-finish : goal.returns-in_err-finish
returns-in_err-finish g c =
    let in_part = slot g (goal.at.returns-in_err-finish g c).After-restore in
    passed_on restore_status (λ e. Work e) _ _ _ c.finish.result c.in_err-finish.field-0.0 c.from_residual-in_err-finish.result
    c.in_err-finish.was c.from_residual-in_err-finish.ensures.1 refl (restored_kept g (goal.at.returns-in_err-finish g c).After-finish
    (inr (record { outside = in_part.outside; size = in_part.size; crash = in_part.crash })))

pub returns : goal.returns
returns g c =
    let in_part = slot g (goal.at.returns g c).After-restore in
    all_done _ _ _ c.finish.result _ c.in_ok-finish.was (restored_kept g (goal.at.returns g c).After-finish
    (inr (record { outside = in_part.outside; size = in_part.size; crash = in_part.crash })))
