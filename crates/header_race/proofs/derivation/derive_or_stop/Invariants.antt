-- the derivation goes on by the iterations that are gone, and the runner stays one of the word
use Rattle.std.proofs.Common.{◌≡◌}
use Rattle.race_word.specs.Known.{IsRunnerOf}
use Rattle.header_race.proofs.derivation.derive_or_stop.Given as goal

abbrev pub invariant-batches : goal.invariant-batches
invariant-batches l =
    IsRunnerOf l.least.table.shared.table_id l.least.key l.runner.seat
    × (l.derive ≡ record l.initial.derive { left = l.left })

abbrev pub decreases-batches : goal.decreases-batches
decreases-batches l = l.left
