-- The clients so far are lined up, and the others wait.
use Rattle.std.proofs.Common.{◌≡◌, ◌+◌, ◌++◌, All, length, vec_capacity}
use Rattle.std.specs.List.{flat_map}
use Rattle.std.specs.Vec.Iter.{into_iter_items, into_iter_len}
use Rattle.vol_server.specs.Laws.Tasks.{IsEmptyBench, IsReady, client_of, of_client}
use Rattle.vol_server.proofs.works.line_up_clients.Given as goal

abbrev pub invariant-clients : goal.invariant-clients
invariant-clients g l = record {
  clients : flat_map (of_client client_of) l.works.items ++ into_iter_items l.waiting ≡ l.fn.clients.items;
  ready : All IsReady l.works.items;
  empty : All IsEmptyBench (into_iter_items l.free);
  left : into_iter_len l.waiting + l.n ≡ l.count;
  as_many : into_iter_len l.free ≡ into_iter_len l.waiting;
  count : l.count ≡ length l.fn.clients.items;
  made : length l.works.items ≡ l.n;
  room : vec_capacity l.works ≡ vec_capacity l.fn.works;
}
