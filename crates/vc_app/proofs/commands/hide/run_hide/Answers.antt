use Rattle.std.proofs.Common.{◌≡◌, ℕ, inr, List, Err, refl, ap, subst}
use Rattle.std.specs.Prelude.{⊤}
use Rattle.rand_chacha.specs.ChaCha.{ChaCha}
use Rattle.vc_outside.specs.Told.{Both, Grows}
use Rattle.volume_format.specs.Hidden.{formatted_hidden, OnlyHiddenSlots}
use Rattle.vc_app.specs.declared.commands.hide.HideError.TheVariants.{Work}
use Rattle.vc_app.specs.Hide.{hidden_plan, hide_status, promise}
use Rattle.vc_app.specs.Promise.{InPart, Kept, Plan, Seen, seen}
use Rattle.vc_app.specs.Status.{ended, work_status}
use Rattle.vc_app.proofs.PromiseIsKept.{all_done, fault_kept, front_goes, image_goes, of_known, on_ok_map, output_goes, passed_on, settled_kept}
use Rattle.vc_app.proofs.commands.hide.run_hide.Given.{Over}
use Rattle.vc_app.proofs.commands.hide.run_hide.Goals.{After-finish}
use Rattle.vc_app.proofs.commands.hide.run_hide.Goals as goal

-- only bytes of the two slots may differ
in_slots : (old new : Seen) → Both old.image new.image OnlyHiddenSlots → new.size ≡ old.size
    → InPart OnlyHiddenSlots (λ image could c. ⊤) old new
in_slots old new outside size = record { outside = outside; size = size; crash = λ modelled c left. of_known old.image (λ b. tt) }

pub returns-in-Err-WriteFault : goal.returns-in-Err-WriteFault
returns-in-Err-WriteFault g c =
    fault_kept (promise c.args.spec.now c.args.random) (seen g.D.Store g.O.Sink c.args.disk.now c.args.out.now)
    (seen g.D.Store g.O.Sink c.format_hidden.new.disk c.args.out.now)
    (λ t early. let is = c.in-Err-WriteFault.ensures.bad_size.1 early.refuses in let here = c.in-Err-WriteFault.field-0-is in cc)
    (inr (in_slots _ _ c.format_hidden.ensures.outside c.format_hidden.ensures.size))
    (record { contents = refl; disk_later = c.format_hidden.ensures.cause.later; out_same = refl })
    (c.in-Err-WriteFault.ensures.cause.rose (ap (λ e. Err e) c.in-Err-WriteFault.field-0-is))

-- the hidden volume is made
made : (g : Over) (c : After-finish g) → Kept (promise c.args.spec.now c.args.random) (ended work_status c.finish.result)
    (seen g.D.Store g.O.Sink c.args.disk.now c.args.out.now) (seen g.D.Store g.O.Sink c.format_hidden.new.disk c.finish.new.out)
made g c =
    let plan : List ℕ → Plan = hidden_plan c.args.spec.now c.args.random in
    let image = g.D.Store.image c.args.disk.now in
    let old = g.O.Sink.contents c.args.out.now in
    let new = g.O.Sink.contents c.finish.new.out in
    settled_kept (promise c.args.spec.now c.args.random) c.finish.result c.new-counts.result.disk c.new-counts.result.out
    (seen g.D.Store g.O.Sink c.args.disk.now c.args.out.now) (seen g.D.Store g.O.Sink c.format_hidden.new.disk c.finish.new.out)
    c.new-counts.ensures.disk c.new-counts.ensures.out c.finish.ensures.settled
    (record {
      admitted = c.in-Ok.ensures.hideable;
      left = image_goes plan image (g.D.Store.image c.format_hidden.new.disk)
          (subst (λ (rng : ChaCha). Both image (g.D.Store.image c.format_hidden.new.disk)
          (λ before after. after ≡ formatted_hidden rng c.args.spec.now before)) c.from_seed-rng.ensures c.in-Ok.ensures.formatted);
      length_left = c.in-Ok.ensures.size;
      lasting = c.in-Ok.ensures.lasting;
    })
    (inr (in_slots _ _ c.format_hidden.ensures.outside c.format_hidden.ensures.size))
    (on_ok_map c.finish.result (λ grown. output_goes plan image (λ xs. Grows old new xs) (λ _. grown)) c.finish.ensures.done)
    (front_goes plan image old new (λ _. c.finish.ensures.front))
    (λ e _. c.finish.ensures.quiet e)

pub returns-in_err-finish : goal.returns-in_err-finish
returns-in_err-finish g c =
    passed_on hide_status (λ e. Work e) _ _ _ c.finish.result c.in_err-finish.field-0.0 c.from_residual.result
    c.in_err-finish.was c.from_residual.ensures.1 refl (made g (goal.at.returns-in_err-finish g c).After-finish)

pub returns : goal.returns
returns g c = all_done _ _ _ c.finish.result _ c.in_ok-finish.was (made g (goal.at.returns g c).After-finish)
