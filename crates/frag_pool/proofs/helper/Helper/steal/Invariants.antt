use Rattle.std.proofs.Common.{◌≡◌}
use Rattle.frag_pool.specs.Bench.{stolen}
use Rattle.frag_pool.proofs.helper.Helper.steal.Given as goal

abbrev pub invariant-loop-i : goal.invariant-loop-i
invariant-loop-i g l = stolen l.self ≡ stolen l.fn.self
