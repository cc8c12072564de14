-- the first derivations have their tasks, in order
use Rattle.std.proofs.Common.{◌≡◌, ◌<◌, ℕ, length, get_or}
use Rattle.race_word.specs.Known.{IsRunnerOf}
use Rattle.header_race.specs.declared.task.Task.{Task}
use Rattle.header_race.specs.Laws.Race.{IsReady}
use Rattle.header_race.proofs.race.tasks_of.Given as goal

abbrev pub invariant-loop-i : goal.invariant-loop-i
invariant-loop-i l =
    IsRunnerOf l.least.table.shared.table_id l.least.key l.first.seat
    × (length l.tasks.items ≡ l.i)
    × ((k : ℕ) (d : Task) → k < l.i → IsReady l.least.table.shared.table_id l.least.key (get_or l.tasks.items k d)
    × ((get_or l.tasks.items k d).number ≡ k))
