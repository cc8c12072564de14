-- While a fragment is waiting, the write is open and nothing is added.
use Rattle.std.proofs.Common.{◌∷◌, []}
use Rattle.sector_model.specs.History.{Write}
use Rattle.io_queue.specs.Laws.Opens.{Opens}
use Rattle.io_queue.specs.Pass.{Call, IsPass}
use Rattle.io_queue.proofs.volume.Volume.end.Given as goal

abbrev pub invariant-loop : goal.invariant-loop
invariant-loop g l =
    (goal.iterator-loop g).can_next l.iterator' × (goal.iterator-loop g).is_finite l.iterator'
    × IsPass l.self.lock.table.shared.table_id l.self.geometry l.self.cipher l.pass.seat
    × Call l.initial.pass.seat.me.0 l.pass.seat.me.0 []
    × ((w : Write) → Opens l.initial.pass.seat.me.0 (w ∷ []) → Opens l.pass.seat.me.0 (w ∷ []))
