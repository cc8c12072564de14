use Rattle.std.proofs.Common.{◌≡◌, ◌≤◌, All, vec_len, vec_capacity}
use Rattle.frag_pool.specs.Bench.{IsNewBench, IsNewHelper}
use Rattle.frag_pool.proofs.pool.Pool.new.Given as goal

abbrev pub invariant-loop : goal.invariant-loop
invariant-loop l = record {
  as_many : vec_len l.all ≡ l.counter;
  room : l.benches ≤ vec_capacity l.all;
  new : All (IsNewBench l.helpers) l.all.items;
}

abbrev pub invariant-loop-2 : goal.invariant-loop-2
invariant-loop-2 l = record {
  benches : vec_len l.all ≡ l.benches;
  new_benches : All (IsNewBench l.helpers) l.all.items;
  as_many : vec_len l.help ≡ l.counter;
  room : l.helpers ≤ vec_capacity l.help;
  new : All (IsNewHelper l.benches) l.help.items;
}
