-- A write that has to be asked again is the same, and adds nothing.
use Rattle.std.proofs.Common.{◌≡◌, []}
use Rattle.io_queue.specs.Pass.{Call, IsPass, NothingOpen}
use Rattle.io_queue.proofs.volume.Volume.admit.Given as goal

abbrev pub invariant-loop : goal.invariant-loop
invariant-loop g l =
    (goal.iterator-loop g).can_next l.iterator' × (goal.iterator-loop g).is_finite l.iterator'
    × IsPass l.self.lock.table.shared.table_id l.self.geometry l.self.cipher l.pass.seat × NothingOpen l.pass.seat.me.0
    × Call l.initial.pass.seat.me.0 l.pass.seat.me.0 [] × (l.asking ≡ l.initial.asking)
