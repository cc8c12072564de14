use Rattle.vol_server.proofs.Following.{both_causes}
use Rattle.vol_server.proofs.client.serve_client.Goals as goal

pub returns-clause-served : goal.returns-clause-served
returns-clause-served g c = let after = c.follow-end.ensures.followed in (
  after.0,
  after.1,
  record {
    rest = g.I.Source.left c.greet-hand.new.link.source;
    held = g.O.Sink.contents c.greet-hand.new.link.sink;
    greeted = c.greet-hand.ensures.greeted;
    followed = after.2;
    read_fault = both_causes _ _ _ _ _ c.greet-hand.ensures.read_fault c.follow-end.ensures.read_fault;
    write_fault = both_causes _ _ _ _ _ c.greet-hand.ensures.write_fault c.follow-end.ensures.write_fault;
  },
)
