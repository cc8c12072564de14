-- The works so far have their passes, and the others wait.
use Rattle.std.proofs.Common.{◌≡◌, ◌+◌, ◌≤◌, ◌++◌, length, map, vec_capacity}
use Rattle.std.specs.Vec.Iter.{into_iter_items, into_iter_len}
use Rattle.hist_lock.specs.Known.{view}
use Rattle.io_queue.specs.Pass.{IsPass, NothingOpen}
use Rattle.vol_server.specs.Laws.Tasks.{HasSplit, work_of}
use Rattle.vol_server.proofs.split.split_all.Given as goal

abbrev pub invariant-works : goal.invariant-works
invariant-works g l = record {
  pass : IsPass l.volume.lock.table.shared.table_id l.volume.geometry l.volume.cipher l.pass.seat;
  nothing : NothingOpen (view l.pass.seat);
  split : HasSplit l.volume.lock.table.shared.table_id l.volume.geometry l.volume.cipher (view l.fn.pass.seat) (view l.pass.seat) l.tasks.items;
  works : map work_of l.tasks.items ++ into_iter_items l.waiting ≡ l.fn.works.items;
  left : into_iter_len l.waiting + l.n ≡ l.count;
  count : l.count ≡ length l.fn.works.items;
  made : length l.tasks.items ≡ l.n;
  room : length l.fn.works.items ≤ vec_capacity l.tasks;
}
