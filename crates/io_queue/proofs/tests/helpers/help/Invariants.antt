-- Help leaves the pass one of the volume, with nothing open.
use Rattle.hist_lock.specs.Known.{view}
use Rattle.io_queue.specs.Pass.{IsPass, NothingOpen}
use Rattle.io_queue.proofs.tests.helpers.help.Given as goal

abbrev pub invariant-loop : goal.invariant-loop
invariant-loop g l =
    (goal.iterator-loop g).can_next l.iterator' × (goal.iterator-loop g).is_finite l.iterator'
    × IsPass l.volume.lock.table.shared.table_id l.volume.geometry l.volume.cipher l.pass.seat
    × NothingOpen (view l.pass.seat)
