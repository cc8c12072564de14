-- The passes of the first tasks are joined, and what the clients among them have is listed.
use Rattle.std.proofs.Common.{◌≡◌, ◌+◌, drop, length, map, take}
use Rattle.std.specs.Vec.Iter.{into_iter_items, into_iter_len}
use Rattle.hist_lock.specs.Known.{view}
use Rattle.io_queue.specs.Pass.{IsPass, NothingOpen}
use Rattle.vol_server.specs.Laws.Lists.{AreListed, HaveRoom}
use Rattle.vol_server.specs.Laws.Tasks.{HasJoined, view_in}
use Rattle.vol_server.proofs.join.join_all.Given as goal

abbrev pub invariant-tasks : goal.invariant-tasks
invariant-tasks g l = record {
  pass : IsPass l.volume.lock.table.shared.table_id l.volume.geometry l.volume.cipher l.pass.seat;
  nothing : NothingOpen (view l.pass.seat);
  joined : HasJoined (view l.fn.pass.seat) (view l.pass.seat) (map view_in (take l.n l.fn.tasks.items));
  rest : into_iter_items l.ended ≡ drop l.n l.fn.tasks.items;
  listed : AreListed l.lists (take l.n l.fn.tasks.items);
  room : HaveRoom (into_iter_len l.ended) l.lists;
  left : into_iter_len l.ended + l.n ≡ l.count;
  count : l.count ≡ length l.fn.tasks.items;
}
