-- The helpers so far are lined up, and the others wait.
use Rattle.std.proofs.Common.{◌≡◌, ◌+◌, All, length, vec_capacity}
use Rattle.std.specs.List.{flat_map}
use Rattle.std.specs.Vec.Iter.{into_iter_len}
use Rattle.vol_server.specs.Laws.Tasks.{IsReady, client_of, of_client}
use Rattle.vol_server.proofs.works.line_up_helpers.Given as goal

abbrev pub invariant-helpers : goal.invariant-helpers
invariant-helpers g l = record {
  clients : flat_map (of_client client_of) l.works.items ≡ flat_map (of_client client_of) l.fn.works.items;
  ready : All IsReady l.works.items;
  left : into_iter_len l.waiting + l.n ≡ l.count;
  count : l.count ≡ length l.fn.helpers.items;
  made : length l.works.items ≡ length l.fn.works.items + l.n;
  room : vec_capacity l.works ≡ vec_capacity l.fn.works;
}
