-- all are runners of the word
use Rattle.std.proofs.Common.{All}
use Rattle.race_word.specs.Known.{IsRunnerOf}
use Rattle.race_word.proofs.tests.offer_by_threads.Given as goal

abbrev pub invariant-loop-i : goal.invariant-loop-i
invariant-loop-i g l =
    IsRunnerOf l.least.table.shared.table_id l.least.key l.first.seat
    × All (λ t. IsRunnerOf l.least.table.shared.table_id l.least.key t.runner.seat) l.tasks.items

abbrev pub invariant-loop-task : goal.invariant-loop-task
invariant-loop-task g l =
    IsRunnerOf l.least.table.shared.table_id l.least.key l.first.seat
    × All (λ t. IsRunnerOf l.least.table.shared.table_id l.least.key t.runner.seat) l.tasks.items

abbrev pub decreases-loop-task : goal.decreases-loop-task
decreases-loop-task g l = goal.left-loop-task g l
