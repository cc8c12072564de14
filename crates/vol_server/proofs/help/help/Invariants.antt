-- The helper has added no entry so far.
use Rattle.std.proofs.Common.{[]}
use Rattle.hist_lock.specs.Known.{view}
use Rattle.io_queue.specs.Pass.{Call, IsPass, NothingOpen}
use Rattle.vol_server.proofs.help.help.Given as goal

abbrev pub invariant-looks : goal.invariant-looks
invariant-looks g l = record {
  pass : IsPass l.volume.lock.table.shared.table_id l.volume.geometry l.volume.cipher l.pass.seat;
  nothing : NothingOpen (view l.pass.seat);
  call : Call (view l.fn.pass.seat) (view l.pass.seat) [];
}
