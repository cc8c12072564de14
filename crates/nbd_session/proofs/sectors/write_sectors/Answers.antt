use Rattle.std.proofs.Common.{false, length, sym, subst}
use Rattle.hist_lock.specs.Known.{view}
use Rattle.io_queue.specs.Pass.{shape}
use Rattle.nbd_session.specs.Session.{events_of}
use Rattle.nbd_wire.specs.Replies.{WriteLeaves}
use Rattle.nbd_wire.specs.declared.reply.Outcome.{Outcome}
use Rattle.nbd_session.proofs.CallLeaves.{count_of, whole_sectors, write_leaves}
use Rattle.nbd_session.proofs.sectors.write_sectors.Goals as goal

pub write-requires-clause-whole : goal.write-requires-clause-whole
write-requires-clause-whole g c κs within =
    whole_sectors c.args.volume.now.geometry.sector c.args.count (length c.args.payload.items) c.requires.sector c.requires.whole

pub returns-clause-call : goal.returns-clause-call
returns-clause-call g c = (
  c.write.ensures.call.0,
  c.write.ensures.call.1,
  subst (λ (o : Outcome). WriteLeaves c.args.first c.args.count false c.args.payload.items o (events_of c.write.ensures.call.0)) (sym c.outcome_of.ensures)
      (write_leaves (shape c.args.volume.now.geometry) (view c.args.pass.now.seat).number c.args.first c.args.count c.args.payload.items c.write.result
      c.write.ensures.call.0 c.write.ensures.call.2
      (count_of c.args.volume.now.geometry.sector c.args.count (length c.args.payload.items) c.requires.sector c.requires.whole)),
)
