use Rattle.std.proofs.Common.{sym}
use Rattle.std.proofs.lemmas.Bool.{false≢true}
use Rattle.hist_lock.specs.Known.{view}
use Rattle.nbd_wire.specs.declared.end.End.TheVariants as end
use Rattle.nbd_session.proofs.Acted.{nothing_done}
use Rattle.nbd_session.proofs.CallByCall.{later_cause, no_write_fault, quiet, same_cause}
use Rattle.nbd_session.proofs.client.serve_next.Goals as goal

pub returns-in-Ok-clause-goes_on : goal.returns-in-Ok-clause-goes_on
returns-in-Ok-clause-goes_on g c is = c.serve_request.ensures.goes_on (g.I.Source.left c.args.link.now.source) c.in-Ok.ensures.head is

pub returns-in-Ok-clause-ends : goal.returns-in-Ok-clause-ends
returns-in-Ok-clause-ends g c = c.serve_request.ensures.ends (g.I.Source.left c.args.link.now.source) c.in-Ok.ensures.head

pub returns-in-Ok-clause-read_fault : goal.returns-in-Ok-clause-read_fault
returns-in-Ok-clause-read_fault g c = later_cause _ _ _ _ _ c.next_request.ensures.cause c.serve_request.ensures.read_fault

pub returns-in-Ok-clause-write_fault : goal.returns-in-Ok-clause-write_fault
returns-in-Ok-clause-write_fault g c = c.serve_request.ensures.write_fault

pub returns-in-Err-clause-goes_on : goal.returns-in-Err-clause-goes_on
returns-in-Err-clause-goes_on g c is = absurd (false≢true (sym is))

pub returns-in-Err-clause-ends : goal.returns-in-Err-clause-ends
returns-in-Err-clause-ends g c =
    nothing_done c.args.volume.now.geometry.sector (view c.args.pass.now.seat) (g.I.Source.left c.args.link.now.source)
    (g.I.Source.left c.next_request.new.source) (g.O.Sink.contents c.args.link.now.sink) c.in-Err.end c.in-Err.ensures.none

pub returns-in-Err-clause-read_fault : goal.returns-in-Err-clause-read_fault
returns-in-Err-clause-read_fault g c = same_cause _ _ _ c.in-Err.end c.next_request.result c.in-Err.is c.next_request.ensures.cause

pub returns-in-Err-clause-write_fault : goal.returns-in-Err-clause-write_fault
returns-in-Err-clause-write_fault g c = quiet (g.O.Sink.faults c.args.link.now.sink) c.in-Err.end end.WriteFault
    (no_write_fault (g.I.Source.left c.args.link.now.source) (g.I.Source.left c.next_request.new.source) c.in-Err.end c.in-Err.ensures.none)
