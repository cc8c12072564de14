use Rattle.std.proofs.Common.{◌∙◌, ℕ, [], ◌∷◌, true, false, inl, inr, length, ◌≡◌, ◌-◌, Err, refl, sym, ap, subst, arith}
use Rattle.std.specs.Prelude.{MatchOption}
use Rattle.std.proofs.lemmas.Bool.{true_from_ne_false}
use Rattle.vc_base.specs.Faults.{Rose}
use Rattle.rand_chacha.specs.ChaCha.{ChaCha, of_seed}
use Rattle.vol_expand.specs.Expanded.{expanded, is_expandable}
use Rattle.vol_expand.specs.Stops.{PartsStay}
use Rattle.vol_expand.proofs.Growing.{meets_standard}
use Rattle.vc_outside.specs.Told.{Both, Grows}
use Rattle.vc_app.specs.declared.commands.expand.ExpandError.TheVariants.{Open, Work}
use Rattle.vc_app.specs.declared.status.Status.TheVariants.{BadSize}
use Rattle.vc_app.specs.Access.{opened, over_opened}
use Rattle.vc_app.specs.Expand.{AtStop, expand_status, outcome, plan_of, promise, reach}
use Rattle.vc_app.specs.Promise.{InLonger, Kept, seen, Unchanged, Within}
use Rattle.vc_app.specs.Rewriting.{sealing}
use Rattle.vc_app.specs.Status.{ended, work_status}
use Rattle.vc_app.proofs.Expanding.{at_length, bad_size_comes, only_standard, parts_stay, plan_comes, rose_since, stops_known, unopened_is_no_end, whatever_is_left}
use Rattle.vc_app.proofs.PromiseIsKept.{all_done, fault_kept, memory_kept, on_ok_map, passed_on, refusal_kept, settled_kept}
use Rattle.vc_app.proofs.Reading.{opened_front, opened_goes, opening_failed, whatever}
use Rattle.vc_app.proofs.Rewriting.{made_of_known, reached}
use Rattle.vc_app.proofs.commands.expand.run_expand.Given.{Over}
use Rattle.vc_app.proofs.commands.expand.run_expand.Goals.{After-expand, After-finish}
use Rattle.vc_app.proofs.commands.expand.run_expand.Goals as goal

pub expand-requires-clause-slot : goal.expand-requires-clause-slot
expand-requires-clause-slot g c = only_standard _ _ c.requires.kind c.in_ok-opened.ensures.slot

pub returns-in_err-opened : goal.returns-in_err-opened
returns-in_err-opened g c =
    let command = c.args.command.now in
    whatever_is_left (over_opened command.access (BadSize ∷ []) false (reach command) (outcome command c.args.random)) (λ len. command.size)
    _ _ _ (unopened_is_no_end c.from_residual.result c.in_err-opened.field-0.0 c.from_residual.ensures.1)
    (record { image = c.open.ensures.image; size = c.open.ensures.size })
    (opening_failed expand_status (λ e. Open e) command.access (BadSize ∷ []) false _ (outcome command c.args.random) c.open.result
    c.in_err-opened.field-0.0 c.from_residual.result _ _ c.in_err-opened.was c.from_residual.ensures.1 refl
    (record { contents = refl; disk_later = c.open.ensures.later; out_same = refl })
    (record { same = record { image = c.open.ensures.image; size = c.open.ensures.size }; crash = c.open.ensures.crash })
    c.open.ensures.unopened)

-- the length may be longer, the parts stay, and a header opens after a crash
longer : (g : Over) (c : After-expand g) → is_expandable (g.D.Store.size c.args.disk.now) c.args.command.now.size c.in_ok-opened.opened.fields.sector ≡ true
    → InLonger c.args.command.now.size (λ b x. PartsStay 512 (length b - 131072) b x)
    (λ b could x. MatchOption (opened c.args.command.now.access b) ⊥ (λ o. AtStop c.args.command.now o b could x))
    (seen g.D.Store g.O.Sink c.args.disk.now c.args.out.now) (seen g.D.Store g.O.Sink c.expand.new.disk c.args.out.now)
longer g c can =
    let command = c.args.command.now in
    let o = c.in_ok-opened.opened in
    let old = seen g.D.Store g.O.Sink c.args.disk.now c.args.out.now in
    let is_standard = only_standard command.access.kind o.slot c.requires.kind c.in_ok-opened.ensures.slot in
    record {
      outside = parts_stay old.image (g.D.Store.image c.open.new.disk) (g.D.Store.image c.expand.new.disk) old.size
          (g.D.Store.size c.open.new.disk) c.open.ensures.image c.open.ensures.size
          (g.met.D.Store.image_is_whole c.args.disk.now) c.expand.ensures.outside;
      size = elim c.expand.ensures.either_size [ inl same ↦ inl (same ∙ c.open.ensures.size) | inr new ↦ inr new ];
      crash = λ modelled x left. stops_known command o old.size old.may_leave x old.image
          (g.met.D.Store.image_is_whole c.args.disk.now) c.in_ok-opened.ensures.opened can
          (meets_standard o.slot o.fields old.size is_standard c.in_ok-opened.ensures.meets)
          (at_length command o (g.D.Store.size c.open.new.disk) old.size old.may_leave x c.open.ensures.size
          (reached _ _ _ _ _ _ _ _ _ _ _ (λ modelled x left. g.met.D.Store.only_now modelled c.args.disk.now x left)
          c.open.ensures.crash c.expand.ensures.crash modelled x left));
    }

pub returns-in-Err-BadSize : goal.returns-in-Err-BadSize
returns-in-Err-BadSize g c =
    let command = c.args.command.now in
    let o = c.in_ok-opened.opened in
    let old = seen g.D.Store g.O.Sink c.args.disk.now c.args.out.now in
    let bad = ap (λ e. Err e) c.in-Err-BadSize.field-0-is in
    let fails : is_expandable old.size command.size o.fields.sector ≡ false
    = subst (λ (n : ℕ). is_expandable n command.size o.fields.sector ≡ false) c.open.ensures.size (c.in-Err-BadSize.ensures.bad_size.0 bad) in
    let unchanged : Unchanged old (seen g.D.Store g.O.Sink c.expand.new.disk c.args.out.now)
    = subst (λ d. Unchanged old (seen g.D.Store g.O.Sink d c.args.out.now)) (sym (c.in-Err-BadSize.ensures.nothing_changed bad))
    (record { same = record { image = c.open.ensures.image; size = c.open.ensures.size }; crash = c.open.ensures.crash }) in
    refusal_kept (promise command c.args.random) BadSize old (seen g.D.Store g.O.Sink c.expand.new.disk c.args.out.now) tt tt
    (record { contents = refl; disk_later = omega (arith, c.open.ensures.later, c.expand.ensures.cause.later); out_same = refl })
    unchanged
    (inr (record {
      admitted = c.in_ok-opened.ensures.in_range;
      named = (1, omega arith, refl);
      comes = bad_size_comes command c.args.random o old.size old.image (g.met.D.Store.image_is_whole c.args.disk.now)
          c.in_ok-opened.ensures.opened fails;
    }))
    (λ t early. absurd (early.refuses c.in_ok-opened.ensures.in_range))

pub returns-in-Err-DiskFault : goal.returns-in-Err-DiskFault
returns-in-Err-DiskFault g c =
    let rose : Rose (g.D.Store.faults c.open.new.disk) (g.D.Store.faults c.expand.new.disk)
    = c.in-Err-DiskFault.ensures.cause.rose (ap (λ e. Err e) c.in-Err-DiskFault.field-0-is) in
    let can = subst (λ (n : ℕ). is_expandable n c.args.command.now.size c.in_ok-opened.opened.fields.sector ≡ true) c.open.ensures.size
    (true_from_ne_false _ (λ fails. let is = c.in-Err-DiskFault.ensures.bad_size.1 fails in let here = c.in-Err-DiskFault.field-0-is in cc)) in
    fault_kept (promise c.args.command.now c.args.random) (seen g.D.Store g.O.Sink c.args.disk.now c.args.out.now)
    (seen g.D.Store g.O.Sink c.expand.new.disk c.args.out.now)
    (λ t early. early.refuses c.in_ok-opened.ensures.in_range) (inr (longer g (goal.at.returns-in-Err-DiskFault g c).After-expand can))
    (record { contents = refl; disk_later = omega (arith, c.open.ensures.later, c.expand.ensures.cause.later); out_same = refl })
    (omega (arith, c.open.ensures.later, rose))

pub returns-then-disk_failed : goal.returns-then-disk_failed
returns-then-disk_failed g c =
    let can = subst (λ (n : ℕ). is_expandable n c.args.command.now.size c.in_ok-opened.opened.fields.sector ≡ true) c.open.ensures.size
    (true_from_ne_false _ (λ fails. let is = c.in-Err-NoMemory.ensures.bad_size.1 fails in let here = c.in-Err-NoMemory.field-0-is in cc)) in
    let rose : Rose (g.D.Store.faults c.args.disk.now) (g.D.Store.faults c.expand.new.disk)
    = rose_since (g.D.Store.faults c.args.disk.now) (g.D.Store.faults c.expand.new.disk)
    (omega (arith, c.open.ensures.later, c.expand.ensures.cause.later))
    (λ e. c.if-disk_failed.ensures (e ∙ sym c.new-counts.ensures.disk)) in
    fault_kept (promise c.args.command.now c.args.random) (seen g.D.Store g.O.Sink c.args.disk.now c.args.out.now)
    (seen g.D.Store g.O.Sink c.expand.new.disk c.args.out.now)
    (λ t early. early.refuses c.in_ok-opened.ensures.in_range) (inr (longer g (goal.at.returns-then-disk_failed g c).After-expand can))
    (record { contents = refl; disk_later = omega (arith, c.open.ensures.later, c.expand.ensures.cause.later); out_same = refl })
    rose

pub returns-in-Err-NoMemory : goal.returns-in-Err-NoMemory
returns-in-Err-NoMemory g c =
    let can = subst (λ (n : ℕ). is_expandable n c.args.command.now.size c.in_ok-opened.opened.fields.sector ≡ true) c.open.ensures.size
    (true_from_ne_false _ (λ fails. let is = c.in-Err-NoMemory.ensures.bad_size.1 fails in let here = c.in-Err-NoMemory.field-0-is in cc)) in
    let none = ap (λ e. Err e) c.in-Err-NoMemory.field-0-is in
    memory_kept (promise c.args.command.now c.args.random) (seen g.D.Store g.O.Sink c.args.disk.now c.args.out.now)
    (seen g.D.Store g.O.Sink c.expand.new.disk c.args.out.now)
    (record { contents = refl; disk_later = omega (arith, c.open.ensures.later, c.expand.ensures.cause.later); out_same = refl })
    (record {
      image = c.in-Err-NoMemory.ensures.same_image none ∙ c.open.ensures.image;
      size = c.in-Err-NoMemory.ensures.same_size none ∙ c.open.ensures.size;
    })
    (inr (longer g (goal.at.returns-in-Err-NoMemory g c).After-expand can))
    (λ t early. absurd (early.refuses c.in_ok-opened.ensures.in_range))
    (c.if-disk_failed.ensures ∙ c.new-counts.ensures.disk)

-- the work is whole
made : (g : Over) (c : After-finish g) → is_expandable (g.D.Store.size c.args.disk.now) c.args.command.now.size c.in_ok-opened.opened.fields.sector ≡ true
    → Within (promise c.args.command.now c.args.random).reach
    (seen g.D.Store g.O.Sink c.args.disk.now c.args.out.now) (seen g.D.Store g.O.Sink c.expand.new.disk c.finish.new.out)
    → Kept (promise c.args.command.now c.args.random) (ended work_status c.finish.result)
    (seen g.D.Store g.O.Sink c.args.disk.now c.args.out.now) (seen g.D.Store g.O.Sink c.expand.new.disk c.finish.new.out)
made g c can within =
    let command = c.args.command.now in
    let o = c.in_ok-opened.opened in
    let old = seen g.D.Store g.O.Sink c.args.disk.now c.args.out.now in
    let new = seen g.D.Store g.O.Sink c.expand.new.disk c.finish.new.out in
    let is = plan_comes command c.args.random o old.size old.image (g.met.D.Store.image_is_whole c.args.disk.now)
    c.in_ok-opened.ensures.opened can in
    settled_kept (promise command c.args.random) c.finish.result c.new-counts.result.disk c.new-counts.result.out old new
    c.new-counts.ensures.disk c.new-counts.ensures.out c.finish.ensures.settled
    (record {
      admitted = c.in_ok-opened.ensures.in_range;
      left = opened_goes command.access (BadSize ∷ []) false (reach command) (outcome command c.args.random)
          (plan_of command c.args.random o) o old.image (λ plan. Both old.image new.image (λ before after. after ≡ plan.image)) is
          (made_of_known old.image (g.D.Store.image c.open.new.disk) new.image
          (expanded c.from_seed-rng.result (sealing command.access o) o.fields command.size)
          (expanded (of_seed c.args.random) (sealing command.access o) o.fields command.size) c.open.ensures.image
          (λ b. ap (λ (rng : ChaCha). expanded rng (sealing command.access o) o.fields command.size b) c.from_seed-rng.ensures)
          c.in-Ok.ensures.expanded);
      length_left = c.in-Ok.ensures.size;
      lasting = c.in-Ok.ensures.lasting;
    })
    within
    (on_ok_map c.finish.result (λ grown. opened_goes command.access (BadSize ∷ []) false (reach command) (outcome command c.args.random)
    (plan_of command c.args.random o) o old.image (λ plan. Grows old.contents new.contents plan.output) is (whatever old.image grown))
    c.finish.ensures.done)
    (opened_front command.access (BadSize ∷ []) false (reach command) (outcome command c.args.random)
    (plan_of command c.args.random o) o old.image old.contents new.contents is (whatever old.image c.finish.ensures.front))
    (λ e _. c.finish.ensures.quiet e)

pub returns-in_err-finish : goal.returns-in_err-finish
returns-in_err-finish g c =
    let can = subst (λ (n : ℕ). is_expandable n c.args.command.now.size c.in_ok-opened.opened.fields.sector ≡ true) c.open.ensures.size
    c.in-Ok.ensures.expandable in
    let part = longer g (goal.at.returns-in_err-finish g c).After-expand can in
    passed_on expand_status (λ e. Work e) _ _ _ c.finish.result c.in_err-finish.field-0.0 c.from_residual-in_err-finish.result
    c.in_err-finish.was c.from_residual-in_err-finish.ensures.1 refl (made g (goal.at.returns-in_err-finish g c).After-finish can
    (inr (record { outside = part.outside; size = part.size; crash = part.crash })))

pub returns : goal.returns
returns g c =
    let can = subst (λ (n : ℕ). is_expandable n c.args.command.now.size c.in_ok-opened.opened.fields.sector ≡ true) c.open.ensures.size
    c.in-Ok.ensures.expandable in
    let part = longer g (goal.at.returns g c).After-expand can in
    all_done _ _ _ c.finish.result _ c.in_ok-finish.was (made g (goal.at.returns g c).After-finish can
    (inr (record { outside = part.outside; size = part.size; crash = part.crash })))
