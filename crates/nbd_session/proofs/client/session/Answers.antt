use Rattle.std.proofs.Common.{arith}
use Rattle.hist_lock.specs.Known.{view}
use Rattle.nbd_session.proofs.CallByCall.{did_all, did_more, did_none}
use Rattle.nbd_session.proofs.NoHead.{none_by}
use Rattle.nbd_session.proofs.client.session.Goals as goal

pub requests-init : goal.requests-init
requests-init g c = record {
  pass = c.requires.pass;
  nothing = c.requires.open;
  bench = c.requires.bench;
  did = did_none c.args.volume.now.geometry.sector (view c.args.pass.now.seat) (g.I.Source.left c.args.link.now.source)
      (g.O.Sink.contents c.args.link.now.sink);
  read = omega arith;
  written = omega arith;
}

pub requests-preserved : goal.requests-preserved
requests-preserved g c = record {
  pass = c.serve_next.ensures.pass;
  nothing = c.serve_next.ensures.open;
  bench = c.serve_next.ensures.bench;
  did = did_more c.args.volume.now.geometry.sector (view c.args.pass.now.seat) (view c.requests.pass.seat) (view c.serve_next.new.pass.seat)
      (g.I.Source.left c.args.link.now.source) (g.I.Source.left c.requests.link.source) (g.I.Source.left c.serve_next.new.link.source)
      (g.O.Sink.contents c.args.link.now.sink) (g.O.Sink.contents c.requests.link.sink) (g.O.Sink.contents c.serve_next.new.link.sink)
      c.requests.n c.requests.invariant.did
      (c.serve_next.ensures.goes_on (none_by c.serve_next.result c.in_default.not-Some));
  read = omega (arith, c.requests.invariant.read, c.serve_next.ensures.read_fault.later);
  written = omega (arith, c.requests.invariant.written, c.serve_next.ensures.write_fault.later);
}

pub returns-in-Some-clause-served : goal.returns-in-Some-clause-served
returns-in-Some-clause-served g c =
    did_all c.args.volume.now.geometry.sector (view c.args.pass.now.seat) (view c.requests.pass.seat) (view c.serve_next.new.pass.seat)
    (g.I.Source.left c.args.link.now.source) (g.I.Source.left c.requests.link.source) (g.I.Source.left c.serve_next.new.link.source)
    (g.O.Sink.contents c.args.link.now.sink) (g.O.Sink.contents c.requests.link.sink) (g.O.Sink.contents c.serve_next.new.link.sink)
    c.requests.n c.requests.invariant.did c.in-Some.end c.in-Some.ensures.ends
