use Rattle.std.proofs.Common.{ap, min, ℕ}
use Rattle.frag_pool.proofs.Steps.{gets, finds_few}
use Rattle.frag_pool.proofs.helper.Thief.steal.Goals as goal

pub steal_as-requires-clause-takes : goal.steal_as-requires-clause-takes
steal_as-requires-clause-takes g c = gets _ _

pub steal_as-requires-clause-empty : goal.steal_as-requires-clause-empty
steal_as-requires-clause-empty g c = finds_few _ _ _ (ap (λ (n : ℕ). min n 1) c.loop.self.first_first)
