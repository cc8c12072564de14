use Rattle.std.proofs.Common.{◌≡◌, ◌<◌, ◌≤◌, ℕ, All, length, vec_len, vec_capacity, []}
use Rattle.frag_pool.specs.Bench.{stolen_from, IsNewBench}
use Rattle.frag_pool.proofs.helper.Helper.new.Given as goal

abbrev pub invariant-loop-i : goal.invariant-loop-i
invariant-loop-i l = record {
  as_many : length l.thieves.items ≡ l.i;
  room : l.i-end ≤ vec_capacity l.thieves;
  same_benches : vec_len l.benches ≡ l.i-end;
  counted : length l.benches.items ≡ l.i-end;
  stolen_none : All (λ t. stolen_from t ≡ []) l.thieves.items;
  helped : All (λ b. 0 < b.helpers) l.benches.items;
  new : (n : ℕ) → All (IsNewBench n) l.fn.benches.items → All (IsNewBench n) l.benches.items;
}
