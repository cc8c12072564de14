use Rattle.std.proofs.Common.{[], sym, subst}
use Rattle.hist_lock.specs.Known.{view}
use Rattle.io_queue.proofs.Passes.{no_call}
use Rattle.nbd_hand.specs.declared.end.HandEnd.{HandEnd}
use Rattle.vol_server.specs.Served.{Follows}
use Rattle.vol_server.proofs.Following.{none_follows}
use Rattle.vol_server.proofs.client.follow.Goals as goal

pub returns-in_default-clause-followed : goal.returns-in_default-clause-followed
returns-in_default-clause-followed g c = (
  [],
  no_call (view c.args.pass.now.seat),
  none_follows c.args.hand c.args.volume.now.geometry.sector (g.I.Source.left c.args.link.now.source) (g.O.Sink.contents c.args.link.now.sink)
      c.in_default.not-Go,
)

pub returns-clause-followed : goal.returns-clause-followed
returns-clause-followed g c = let after = c.session.ensures.served in (
  after.0,
  after.1,
  subst (λ (how : HandEnd). Follows how c.args.volume.now.geometry.sector (g.I.Source.left c.args.link.now.source) (g.I.Source.left c.session.new.link.source)
      (g.O.Sink.contents c.args.link.now.sink) (g.O.Sink.contents c.session.new.link.sink) after.0 c.session.result.1 c.session.result.0) (sym c.in-Go.is) after.2,
)
