use Rattle.std.proofs.Common.{◌≡◌, ◌==◌, ℕ, false, sym, ap, ◌∙◌}
use Rattle.std.proofs.lemmas.Bool.{false≢true}
use Rattle.hist_lock.specs.Known.{view}
use Rattle.nbd_wire.specs.Classes.{asked}
use Rattle.nbd_wire.specs.declared.ask.Ask.TheVariants as ask
use Rattle.nbd_wire.specs.declared.end.End.TheVariants as end
use Rattle.vc_layout.specs.declared.geometry.Geometry.{Geometry}
use Rattle.nbd_session.proofs.Acted.{goes_on, kept_is, nothing_done, stops}
use Rattle.nbd_session.proofs.Asked.{disconnect_is, disconnect_isnt}
use Rattle.nbd_session.proofs.CallByCall.{acts_no_read, cut_no_write, other_cause, quiet, same_cause}
use Rattle.nbd_session.proofs.HeadAndPayload.{cut_request, disconnects}
use Rattle.nbd_session.proofs.client.serve_request.Goals as goal

pub returns-in-Disconnect-clause-ends : goal.returns-in-Disconnect-clause-ends
returns-in-Disconnect-clause-ends g c before h =
    let sector : ℕ = c.args.volume.now.geometry.sector in
    let is : asked sector c.args.request.now ≡ ask.Disconnect =
    ap (λ (x : Geometry). asked x.sector c.args.request.now) (sym c.geometry.ensures) ∙ sym c.ask_of-ask.ensures ∙ c.in-Disconnect.is in
    nothing_done sector (view c.args.pass.now.seat) before (g.I.Source.left c.args.link.now.source) (g.O.Sink.contents c.args.link.now.sink) end.Done
    (disconnects before (g.I.Source.left c.args.link.now.source) c.args.request.now h (disconnect_is sector c.args.request.now is))

pub returns-in-Disconnect-clause-goes_on : goal.returns-in-Disconnect-clause-goes_on
returns-in-Disconnect-clause-goes_on g c before h is = absurd (false≢true (sym is))

pub returns-in-Err-clause-goes_on : goal.returns-in-Err-clause-goes_on
returns-in-Err-clause-goes_on g c before h is = absurd (false≢true (sym is))

pub returns-in-Err-clause-ends : goal.returns-in-Err-clause-ends
returns-in-Err-clause-ends g c before h =
    let sector : ℕ = c.args.volume.now.geometry.sector in
    let isnt : (c.args.request.now.kind == 2) ≡ false = disconnect_isnt sector c.args.request.now
    (λ is. c.in_default.not-Disconnect (c.ask_of-ask.ensures ∙ ap (λ (x : Geometry). asked x.sector c.args.request.now) c.geometry.ensures ∙ is)) in
    nothing_done sector (view c.args.pass.now.seat) before (g.I.Source.left c.take_rest.new.source) (g.O.Sink.contents c.args.link.now.sink) c.in-Err.end
    (cut_request before (g.I.Source.left c.args.link.now.source) c.args.request.now h (g.I.Source.left c.take_rest.new.source) isnt c.in-Err.end c.in-Err.ensures.cut)

pub returns-in-Err-clause-read_fault : goal.returns-in-Err-clause-read_fault
returns-in-Err-clause-read_fault g c = same_cause _ _ _ c.in-Err.end c.take_rest.result c.in-Err.is c.take_rest.ensures.cause

pub returns-in-Err-clause-write_fault : goal.returns-in-Err-clause-write_fault
returns-in-Err-clause-write_fault g c = quiet (g.O.Sink.faults c.args.link.now.sink) c.in-Err.end end.WriteFault
    (cut_no_write _ _ _ c.in-Err.end c.in-Err.ensures.cut)

pub answer-requires-clause-asked : goal.answer-requires-clause-asked
answer-requires-clause-asked g c κs within =
    sym (c.ask_of-ask.ensures ∙ ap (λ (x : Geometry). asked x.sector c.args.request.now) c.geometry.ensures)

pub returns-in-Ok-clause-goes_on : goal.returns-in-Ok-clause-goes_on
returns-in-Ok-clause-goes_on g c before h is =
    let sector : ℕ = c.args.volume.now.geometry.sector in
    let isnt : (c.args.request.now.kind == 2) ≡ false = disconnect_isnt sector c.args.request.now
    (λ is. c.in_default.not-Disconnect (c.ask_of-ask.ensures ∙ ap (λ (x : Geometry). asked x.sector c.args.request.now) c.geometry.ensures ∙ is)) in
    let p = c.in-Ok.ensures.taken in
    goes_on sector c.args.request.now (view c.args.pass.now.seat) (view c.answer.new.pass.seat)
    before (g.I.Source.left c.args.link.now.source) (g.I.Source.left c.take_rest.new.source)
    (g.O.Sink.contents c.args.link.now.sink) (g.O.Sink.contents c.answer.new.sink) h isnt _ p
    c.answer.result (c.answer.ensures.acts p.payload (kept_is _ _ _ (λ v. v.items) c.in-Ok.kept p)) is

pub returns-in-Ok-clause-ends : goal.returns-in-Ok-clause-ends
returns-in-Ok-clause-ends g c before h =
    let sector : ℕ = c.args.volume.now.geometry.sector in
    let isnt : (c.args.request.now.kind == 2) ≡ false = disconnect_isnt sector c.args.request.now
    (λ is. c.in_default.not-Disconnect (c.ask_of-ask.ensures ∙ ap (λ (x : Geometry). asked x.sector c.args.request.now) c.geometry.ensures ∙ is)) in
    let p = c.in-Ok.ensures.taken in
    stops sector c.args.request.now (view c.args.pass.now.seat) (view c.answer.new.pass.seat)
    before (g.I.Source.left c.args.link.now.source) (g.I.Source.left c.take_rest.new.source)
    (g.O.Sink.contents c.args.link.now.sink) (g.O.Sink.contents c.answer.new.sink) h isnt _ p
    c.answer.result (c.answer.ensures.acts p.payload (kept_is _ _ _ (λ v. v.items) c.in-Ok.kept p))

pub returns-in-Ok-clause-read_fault : goal.returns-in-Ok-clause-read_fault
returns-in-Ok-clause-read_fault g c =
    let p = c.in-Ok.ensures.taken in
    other_cause (g.I.Source.faults c.args.link.now.source) (g.I.Source.faults c.take_rest.new.source) _ c.answer.result end.ReadFault
    (acts_no_read c.args.volume.now.geometry.sector (record { request = c.args.request.now; payload = p.payload })
    (view c.args.pass.now.seat) (view c.answer.new.pass.seat)
    (g.O.Sink.contents c.args.link.now.sink) (g.O.Sink.contents c.answer.new.sink) c.answer.result
    (c.answer.ensures.acts p.payload (kept_is _ _ _ (λ v. v.items) c.in-Ok.kept p))) c.take_rest.ensures.cause

pub returns-in-Ok-clause-write_fault : goal.returns-in-Ok-clause-write_fault
returns-in-Ok-clause-write_fault g c = c.answer.ensures.cause
