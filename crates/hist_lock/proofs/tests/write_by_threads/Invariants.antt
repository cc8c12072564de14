-- All passes are of the same lock.
use Rattle.std.proofs.Common.{All}
use Rattle.hist_lock.specs.Known.{IsPassOf}
use Rattle.hist_lock.proofs.tests.write_by_threads.Given as goal

abbrev pub invariant-loop : goal.invariant-loop
invariant-loop g l = IsPassOf l.lock.table.shared.table_id l.pass.seat × All (λ t. IsPassOf l.lock.table.shared.table_id t.pass.seat) l.tasks.items

abbrev pub invariant-loop-task : goal.invariant-loop-task
invariant-loop-task g l = IsPassOf l.lock.table.shared.table_id l.pass.seat × All (λ t. IsPassOf l.lock.table.shared.table_id t.pass.seat) l.tasks.items

abbrev pub decreases-loop-task : goal.decreases-loop-task
decreases-loop-task g l = goal.left-loop-task g l
