-- no derivation up to here has a valid candidate
use Rattle.header_race.specs.Laws.Race.{NoneBefore}
use Rattle.header_race.proofs.race.settle.Given as goal

abbrev pub invariant-loop-task : goal.invariant-loop-task
invariant-loop-task l = NoneBefore l.least.key.names l.task-index
