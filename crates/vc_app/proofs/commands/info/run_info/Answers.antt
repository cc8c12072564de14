use Rattle.std.proofs.Common.{[], false, refl}
use Rattle.vc_app.specs.declared.commands.info.InfoError.TheVariants.{Work}
use Rattle.vc_app.specs.Info.{info_status, promise, text_of}
use Rattle.vc_app.specs.Promise.{goes, Kept, nowhere, seen}
use Rattle.vc_app.specs.Status.{ended, work_status}
use Rattle.vc_app.proofs.PromiseIsKept.{all_done, on_ok_map, passed_on}
use Rattle.vc_app.proofs.Reading.{both_known, image_same, opened_kept, whatever}
use Rattle.vc_app.proofs.commands.info.run_info.Given.{Over}
use Rattle.vc_app.proofs.commands.info.run_info.Goals.{After-write_text}
use Rattle.vc_app.proofs.commands.info.run_info.Goals as goal

-- a header was opened
shown : (g : Over) (c : After-write_text g) → Kept (promise c.args.access.now) (ended work_status c.write_text.result)
    (seen g.D.Store g.O.Sink c.args.disk.now c.args.out.now) (seen g.D.Store g.O.Sink c.open.new.disk c.write_text.new.out)
shown g c =
    let o = c.in_ok-opened.opened in
    let image = g.D.Store.image c.args.disk.now in
    opened_kept c.args.access.now [] false nowhere (λ o image. goes (record { image = image; output = text_of o }))
    (λ b. record { image = b; output = text_of o }) o
    c.write_text.result c.new-counts.result.disk c.new-counts.result.out
    (seen g.D.Store g.O.Sink c.args.disk.now c.args.out.now) (seen g.D.Store g.O.Sink c.open.new.disk c.write_text.new.out)
    c.new-counts.ensures.disk c.new-counts.ensures.out c.write_text.ensures.settled c.in_ok-opened.ensures.in_range
    (both_known image _ _ c.in_ok-opened.ensures.opened (λ b. refl))
    (image_same image (g.D.Store.image c.open.new.disk) c.open.ensures.image) c.open.ensures.size tt
    (record { same = record { image = c.open.ensures.image; size = c.open.ensures.size }; crash = c.open.ensures.crash })
    (on_ok_map c.write_text.result (whatever image) c.write_text.ensures.done) (whatever image c.write_text.ensures.front)
    (λ e _. c.write_text.ensures.quiet e)

pub returns-in_err-write_text : goal.returns-in_err-write_text
returns-in_err-write_text g c =
    passed_on info_status (λ e. Work e) _ _ _ c.write_text.result c.in_err-write_text.field-0.0 c.from_residual-in_err-write_text.result
    c.in_err-write_text.was c.from_residual-in_err-write_text.ensures.1 refl
    (shown g (goal.at.returns-in_err-write_text g c).After-write_text)

pub returns : goal.returns
returns g c = all_done _ _ _ c.write_text.result _ c.in_ok-write_text.was (shown g (goal.at.returns g c).After-write_text)
