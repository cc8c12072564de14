use Rattle.std.proofs.Common.{◌≡◌, ◌==◌, false, refl, sym, ◌∙◌}
use Rattle.nbd_session.proofs.Acted.{kept_is}
use Rattle.nbd_session.proofs.Asked.{disconnect_is, disconnect_isnt}
use Rattle.nbd_session.proofs.HeadAndPayload.{cut_request, disconnects}
use Rattle.pipe_lane.proofs.Hearing.{request_taken}
use Rattle.pipe_lane.proofs.queued.take_behind.Goals as goal

pub returns-in-Disconnect-clause-over : goal.returns-in-Disconnect-clause-over
returns-in-Disconnect-clause-over g c before h =
    disconnects before (g.I.Source.left c.args.source.now) c.args.request.now h
    (disconnect_is c.args.sector c.args.request.now (sym c.ask_of-ask.ensures ∙ c.in-Disconnect.is))

pub returns-in-Err-clause-over : goal.returns-in-Err-clause-over
returns-in-Err-clause-over g c before h =
    let isnt : (c.args.request.now.kind == 2) ≡ false = disconnect_isnt c.args.sector c.args.request.now
    (λ is. c.in_default.not-Disconnect (c.ask_of-ask.ensures ∙ is)) in
    cut_request before (g.I.Source.left c.args.source.now) c.args.request.now h (g.I.Source.left c.take_rest.new.source) isnt c.in-Err.end
    c.in-Err.ensures.cut

pub returns-in-Ok-clause-asked : goal.returns-in-Ok-clause-asked
returns-in-Ok-clause-asked g c before h =
    let isnt : (c.args.request.now.kind == 2) ≡ false = disconnect_isnt c.args.sector c.args.request.now
    (λ is. c.in_default.not-Disconnect (c.ask_of-ask.ensures ∙ is)) in
    let p = c.in-Ok.ensures.taken in
    request_taken before (g.I.Source.left c.args.source.now) (g.I.Source.left c.take_rest.new.source) c.args.request.now h isnt _ p
    c.args.sector _
    (record {
      request = refl;
      asks_so = sym c.ask_of-ask.ensures;
      stays = c.in_default.not-Disconnect;
      payload = kept_is _ _ _ (λ v. v.items) c.in-Ok.payload p;
      size = c.in-Ok.ensures.size;
    })
