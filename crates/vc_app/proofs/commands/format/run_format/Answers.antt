use Rattle.std.proofs.Common.{◌≡◌, Err, refl, ap, subst}
use Rattle.rand_chacha.specs.ChaCha.{ChaCha}
use Rattle.vc_outside.specs.Told.{Both}
use Rattle.volume_format.specs.Formatted.{formatted}
use Rattle.vc_app.specs.declared.commands.format.FormatError.TheVariants.{Work}
use Rattle.vc_app.specs.Format.{format_status, promise}
use Rattle.vc_app.specs.Promise.{Kept, seen}
use Rattle.vc_app.specs.Status.{ended, work_status}
use Rattle.vc_app.proofs.PromiseIsKept.{all_done, fault_kept, memory_kept, passed_on, settled_kept}
use Rattle.vc_app.proofs.commands.format.run_format.Given.{Over}
use Rattle.vc_app.proofs.commands.format.run_format.Goals.{After-finish}
use Rattle.vc_app.proofs.commands.format.run_format.Goals as goal

pub returns-in-Err-WriteFault : goal.returns-in-Err-WriteFault
returns-in-Err-WriteFault g c =
    fault_kept (promise c.args.spec.now c.args.random) (seen g.D.Store g.O.Sink c.args.disk.now c.args.out.now)
    (seen g.D.Store g.O.Sink c.format_outer.new.disk c.args.out.now)
    (λ t early. let is = c.in-Err-WriteFault.ensures.bad_size.1 early.refuses in let here = c.in-Err-WriteFault.field-0-is in cc) tt
    (record { contents = refl; disk_later = c.format_outer.ensures.cause.later; out_same = refl })
    (c.in-Err-WriteFault.ensures.cause.rose (ap (λ e. Err e) c.in-Err-WriteFault.field-0-is))

pub returns-in-Err-NoMemory : goal.returns-in-Err-NoMemory
returns-in-Err-NoMemory g c =
    let none = ap (λ e. Err e) c.in-Err-NoMemory.field-0-is in
    memory_kept (promise c.args.spec.now c.args.random) (seen g.D.Store g.O.Sink c.args.disk.now c.args.out.now)
    (seen g.D.Store g.O.Sink c.format_outer.new.disk c.args.out.now)
    (record { contents = refl; disk_later = c.format_outer.ensures.cause.later; out_same = refl })
    (record { image = c.in-Err-NoMemory.ensures.same_image none; size = c.in-Err-NoMemory.ensures.same_size none })
    tt (λ t early. let is = c.in-Err-NoMemory.ensures.bad_size.1 early.refuses in let here = c.in-Err-NoMemory.field-0-is in absurd cc)
    (c.in-Err-NoMemory.ensures.same_faults none)

-- the container is made
made : (g : Over) (c : After-finish g) → Kept (promise c.args.spec.now c.args.random) (ended work_status c.finish.result)
    (seen g.D.Store g.O.Sink c.args.disk.now c.args.out.now) (seen g.D.Store g.O.Sink c.format_outer.new.disk c.finish.new.out)
made g c =
    settled_kept (promise c.args.spec.now c.args.random) c.finish.result c.new-counts.result.disk c.new-counts.result.out
    (seen g.D.Store g.O.Sink c.args.disk.now c.args.out.now) (seen g.D.Store g.O.Sink c.format_outer.new.disk c.finish.new.out)
    c.new-counts.ensures.disk c.new-counts.ensures.out c.finish.ensures.settled
    (record {
      admitted = c.in-Ok.ensures.formattable;
      left = subst (λ (rng : ChaCha). Both (g.D.Store.image c.args.disk.now) (g.D.Store.image c.format_outer.new.disk)
          (λ before after. after ≡ formatted rng c.args.spec.now)) c.from_seed-rng.ensures c.in-Ok.ensures.formatted;
      length_left = c.in-Ok.ensures.size;
      lasting = c.in-Ok.ensures.lasting;
    })
    tt c.finish.ensures.done c.finish.ensures.front (λ e _. c.finish.ensures.quiet e)

pub returns-in_err-finish : goal.returns-in_err-finish
returns-in_err-finish g c =
    passed_on format_status (λ e. Work e) _ _ _ c.finish.result c.in_err-finish.field-0.0 c.from_residual.result
    c.in_err-finish.was c.from_residual.ensures.1 refl (made g (goal.at.returns-in_err-finish g c).After-finish)

pub returns : goal.returns
returns g c = all_done _ _ _ c.finish.result _ c.in_ok-finish.was (made g (goal.at.returns g c).After-finish)
