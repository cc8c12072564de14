use Rattle.std.proofs.Common.{◌≡◌}
use Rattle.frag_pool.specs.Bench.{stolen_from}
use Rattle.frag_pool.proofs.helper.Thief.steal.Given as goal

abbrev pub invariant-loop : goal.invariant-loop
invariant-loop g l =
    (goal.iterator-loop g).can_next l.iterator' × (goal.iterator-loop g).is_finite l.iterator'
    × (stolen_from l.self ≡ stolen_from l.fn.self)
