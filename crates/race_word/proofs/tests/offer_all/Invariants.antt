-- it stays a runner of the word
use Rattle.race_word.specs.Known.{IsRunnerOf}
use Rattle.race_word.proofs.tests.offer_all.Given as goal

abbrev pub invariant-loop-below : goal.invariant-loop-below
invariant-loop-below l = IsRunnerOf l.least.table.shared.table_id l.least.key l.task.runner.seat
