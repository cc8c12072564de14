use Rattle.std.proofs.Common.{◌∙◌, ◌⊎◌, ℕ, [], false, inr, List, Option, refl, ap₂, subst, arith}
use Rattle.std.specs.Prelude.{MatchOption}
use Rattle.vc_base.specs.Faults.{Rose}
use Rattle.rand_chacha.specs.ChaCha.{ChaCha, of_seed}
use Rattle.kdf_hmac.specs.declared.prf.Prf.{Prf}
use Rattle.header_change.specs.Changed.{changed, new_sealing}
use Rattle.header_change.specs.Moments.{After, Changes}
use Rattle.header_change.specs.Pair.{OnlyPair}
use Rattle.vc_outside.specs.Told.{Both}
use Rattle.vc_app.specs.declared.commands.passwd.PasswdError.TheVariants.{Open, Work}
use Rattle.vc_app.specs.Format.{done_line}
use Rattle.vc_app.specs.Passwd.{EitherStays, passwd_status, promise, sealing_asked}
use Rattle.vc_app.specs.Promise.{goes, InPart, Kept, seen, Within}
use Rattle.vc_app.specs.Status.{ended, work_status}
use Rattle.vc_app.specs.Access.{opened}
use Rattle.vc_app.specs.Rewriting.{AtStop, sealing}
use Rattle.vc_app.proofs.PromiseIsKept.{all_done, fault_kept, on_ok_map, passed_on}
use Rattle.vc_app.proofs.Reading.{both_known, opened_kept, opening_failed, whatever}
use Rattle.vc_app.proofs.Rewriting.{in_slots, made_of_known, pair_at_stop, reached}
use Rattle.vc_app.proofs.commands.passwd.run_passwd.Given.{Over}
use Rattle.vc_app.proofs.commands.passwd.run_passwd.Goals.{After-change, After-finish}
use Rattle.vc_app.proofs.commands.passwd.run_passwd.Goals as goal

pub returns-in_err-opened : goal.returns-in_err-opened
returns-in_err-opened g c =
    let command = c.args.command.now in
    opening_failed passwd_status (λ e. Open e) command.access [] false _ _ c.open.result
    c.in_err-opened.field-0.0 c.from_residual.result _ _ c.in_err-opened.was c.from_residual.ensures.1 refl
    (record { contents = refl; disk_later = c.open.ensures.later; out_same = refl })
    (record { same = record { image = c.open.ensures.image; size = c.open.ensures.size }; crash = c.open.ensures.crash })
    c.open.ensures.unopened

-- only bytes of the two slots may differ, and a header opens after a crash
slots : (g : Over) (c : After-change g)
    → InPart (λ b x. MatchOption (opened c.args.command.now.access b) ⊥ (λ o. OnlyPair o.slot b x))
    (λ b could x. MatchOption (opened c.args.command.now.access b) ⊥ (λ o. AtStop (OnlyPair o.slot) (EitherStays c.args.command.now o could x) could x))
    (seen g.D.Store g.O.Sink c.args.disk.now c.args.out.now) (seen g.D.Store g.O.Sink c.change.new.disk c.args.out.now)
slots g c =
    let command = c.args.command.now in
    let o = c.in_ok-opened.opened in
    let old = seen g.D.Store g.O.Sink c.args.disk.now c.args.out.now in
    let new = seen g.D.Store g.O.Sink c.change.new.disk c.args.out.now in
    in_slots command.access (λ o. OnlyPair o.slot) (EitherStays command) o old new c.in_ok-opened.ensures.opened
    (subst (λ (x : Option (List ℕ)). Both x new.image (OnlyPair o.slot)) c.open.ensures.image c.change.ensures.outside)
    (c.change.ensures.size ∙ c.open.ensures.size)
    (λ modelled x left. pair_at_stop o.slot (sealing command.access o) (sealing_asked command o) o.fields old.may_leave x
    (subst (λ (prf : Prf). old.may_leave x ⊎ After old.may_leave (Changes o.slot (new_sealing command.password command.pim prf o) o.fields) x)
    c.unwrap_or-prf.ensures
    (reached _ _ _ _ _ _ _ _ _ _ _ (λ modelled x left. g.met.D.Store.only_now modelled c.args.disk.now x left)
    c.open.ensures.crash c.change.ensures.crash modelled x left)))

pub returns-in-Err : goal.returns-in-Err
returns-in-Err g c =
    let rose : Rose (g.D.Store.faults c.open.new.disk) (g.D.Store.faults c.change.new.disk) = c.in-Err.ensures.cause.rose refl in
    fault_kept (promise c.args.command.now c.args.random) (seen g.D.Store g.O.Sink c.args.disk.now c.args.out.now)
    (seen g.D.Store g.O.Sink c.change.new.disk c.args.out.now)
    (λ t early. early.refuses c.in_ok-opened.ensures.in_range) (inr (slots g (goal.at.returns-in-Err g c).After-change))
    (record { contents = refl; disk_later = omega (arith, c.open.ensures.later, c.change.ensures.cause.later); out_same = refl })
    (omega (arith, c.open.ensures.later, rose))

-- the work is whole
changed_kept : (g : Over) (c : After-finish g) → Within (promise c.args.command.now c.args.random).reach
    (seen g.D.Store g.O.Sink c.args.disk.now c.args.out.now) (seen g.D.Store g.O.Sink c.change.new.disk c.finish.new.out)
    → Kept (promise c.args.command.now c.args.random) (ended work_status c.finish.result)
    (seen g.D.Store g.O.Sink c.args.disk.now c.args.out.now) (seen g.D.Store g.O.Sink c.change.new.disk c.finish.new.out)
changed_kept g c within =
    let command = c.args.command.now in
    let o = c.in_ok-opened.opened in
    let image = g.D.Store.image c.args.disk.now in
    let made : List ℕ → List ℕ = changed (of_seed c.args.random) (sealing_asked command o) o in
    opened_kept command.access [] false _ (λ o image. goes (record { image = changed (of_seed c.args.random) (sealing_asked command o) o image; output = done_line }))
    (λ b. record { image = made b; output = done_line }) o
    c.finish.result c.new-counts.result.disk c.new-counts.result.out
    (seen g.D.Store g.O.Sink c.args.disk.now c.args.out.now) (seen g.D.Store g.O.Sink c.change.new.disk c.finish.new.out)
    c.new-counts.ensures.disk c.new-counts.ensures.out c.finish.ensures.settled c.in_ok-opened.ensures.in_range
    (both_known image _ _ c.in_ok-opened.ensures.opened (λ b. refl))
    (made_of_known image (g.D.Store.image c.open.new.disk) (g.D.Store.image c.change.new.disk)
    (changed c.from_seed-rng.result (new_sealing command.password command.pim c.unwrap_or-prf.result o) o) made c.open.ensures.image
    (λ b. ap₂ (λ (rng : ChaCha) (prf : Prf). changed rng (new_sealing command.password command.pim prf o) o b)
    c.from_seed-rng.ensures c.unwrap_or-prf.ensures)
    c.in-Ok.ensures.changed)
    (c.change.ensures.size ∙ c.open.ensures.size) c.in-Ok.ensures.lasting within
    (on_ok_map c.finish.result (whatever image) c.finish.ensures.done) (whatever image c.finish.ensures.front)
    (λ e _. c.finish.ensures.quiet e)

pub returns-in_err-finish : goal.returns-in_err-finish
returns-in_err-finish g c =
    let in_part = slots g (goal.at.returns-in_err-finish g c).After-change in
    passed_on passwd_status (λ e. Work e) _ _ _ c.finish.result c.in_err-finish.field-0.0 c.from_residual-in_err-finish.result
    c.in_err-finish.was c.from_residual-in_err-finish.ensures.1 refl (changed_kept g (goal.at.returns-in_err-finish g c).After-finish
    (inr (record { outside = in_part.outside; size = in_part.size; crash = in_part.crash })))

pub returns : goal.returns
returns g c =
    let in_part = slots g (goal.at.returns g c).After-change in
    all_done _ _ _ c.finish.result _ c.in_ok-finish.was (changed_kept g (goal.at.returns g c).After-finish
    (inr (record { outside = in_part.outside; size = in_part.size; crash = in_part.crash })))
