-- The requests so far were answered.
use Rattle.std.proofs.Common.{◌≡◌, ◌≤◌, true}
use Rattle.frag_pool.specs.Bench.{is_empty}
use Rattle.hist_lock.specs.Known.{view}
use Rattle.io_queue.specs.Pass.{IsPass, NothingOpen}
use Rattle.nbd_session.specs.Laws.Onward.{Did}
use Rattle.nbd_session.proofs.client.session.Given as goal

abbrev pub invariant-requests : goal.invariant-requests
invariant-requests g l = record {
  pass : IsPass l.volume.lock.table.shared.table_id l.volume.geometry l.volume.cipher l.pass.seat;
  nothing : NothingOpen (view l.pass.seat);
  bench : is_empty l.bench ≡ true;
  did : Did l.volume.geometry.sector (view l.fn.pass.seat) (view l.pass.seat) (g.I.Source.left l.fn.link.source) (g.I.Source.left l.link.source)
      (g.O.Sink.contents l.fn.link.sink) (g.O.Sink.contents l.link.sink) l.n;
  read : g.I.Source.faults l.fn.link.source ≤ g.I.Source.faults l.link.source;
  written : g.O.Sink.faults l.fn.link.sink ≤ g.O.Sink.faults l.link.sink;
}
