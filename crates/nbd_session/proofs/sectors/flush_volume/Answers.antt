use Rattle.std.proofs.Common.{sym, subst}
use Rattle.hist_lock.specs.Known.{view}
use Rattle.io_queue.specs.Calls.{flush_entries}
use Rattle.nbd_session.specs.Session.{events_of}
use Rattle.nbd_wire.specs.Replies.{FlushLeaves}
use Rattle.nbd_wire.specs.declared.reply.Outcome.{Outcome}
use Rattle.nbd_session.proofs.CallLeaves.{flush_leaves}
use Rattle.nbd_session.proofs.sectors.flush_volume.Goals as goal

pub returns-clause-call : goal.returns-clause-call
returns-clause-call g c = (
  flush_entries (view c.args.pass.now.seat).number c.flush.result,
  c.flush.ensures.call,
  subst (λ (o : Outcome). FlushLeaves o (events_of (flush_entries (view c.args.pass.now.seat).number c.flush.result))) (sym c.outcome_of.ensures)
      (flush_leaves (view c.args.pass.now.seat).number c.flush.result c.flush.ensures.result),
)
