use Rattle.std.proofs.Common.{false, Bool, ◌++◌, sym, subst}
use Rattle.hist_lock.specs.Known.{view}
use Rattle.io_queue.proofs.Passes.{calls}
use Rattle.nbd_wire.specs.Replies.{WriteLeaves}
use Rattle.nbd_wire.specs.declared.reply.Outcome.{Outcome}
use Rattle.nbd_session.specs.Session.{events_of}
use Rattle.nbd_session.proofs.CallLeaves.{flushed_leaves, unstored_leaves}
use Rattle.nbd_session.proofs.sectors.write_request.Goals as goal

pub returns-then-not-fua-clause-call : goal.returns-then-not-fua-clause-call
returns-then-not-fua-clause-call g c =
    let call = c.write_sectors-stored.ensures.call in (
      call.0,
      call.1,
      subst (λ (b : Bool). WriteLeaves c.args.first c.args.count b c.args.payload.items c.write_sectors-stored.result (events_of call.0)) (sym c.if-not-fua.true) call.2,
    )

pub returns-in_default-clause-call : goal.returns-in_default-clause-call
returns-in_default-clause-call g c =
    let call = c.write_sectors-stored.ensures.call in (
      call.0,
      call.1,
      subst (λ (b : Bool). WriteLeaves c.args.first c.args.count b c.args.payload.items c.write_sectors-stored.result (events_of call.0)) (sym c.if-not-fua.false)
          (unstored_leaves c.args.first c.args.count c.args.payload.items c.write_sectors-stored.result (events_of call.0) c.in_default.not-Done call.2),
    )

pub returns-clause-call : goal.returns-clause-call
returns-clause-call g c =
    let call = c.write_sectors-stored.ensures.call in
    let flush = c.flush_volume.ensures.call in (
      call.0 ++ flush.0,
      calls (view c.args.pass.now.seat) (view c.write_sectors-stored.new.pass.seat) (view c.flush_volume.new.pass.seat) call.0 flush.0 call.1 flush.1,
      subst (λ (b : Bool). WriteLeaves c.args.first c.args.count b c.args.payload.items c.flush_volume.result (events_of (call.0 ++ flush.0))) (sym c.if-not-fua.false)
          (flushed_leaves c.args.first c.args.count c.args.payload.items c.flush_volume.result call.0 flush.0
          (subst (λ (o : Outcome). WriteLeaves c.args.first c.args.count false c.args.payload.items o (events_of call.0)) c.in-Done.is call.2) flush.2),
    )
