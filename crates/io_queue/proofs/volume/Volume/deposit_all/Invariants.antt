-- Deposits add no entry.
use Rattle.std.proofs.Common.{◌≡◌, [], List, length}
use Rattle.sector_model.specs.History.{Write}
use Rattle.io_queue.specs.Laws.Opens.{Opens}
use Rattle.io_queue.specs.Pass.{Call, IsPass}
use Rattle.io_queue.proofs.volume.Volume.deposit_all.Given as goal

abbrev pub invariant-loop-index : goal.invariant-loop-index
invariant-loop-index g l =
    IsPass l.self.lock.table.shared.table_id l.self.geometry l.self.cipher l.pass.seat
    × Call l.initial.pass.seat.me.0 l.pass.seat.me.0 []
    × ((ws : List Write) → Opens l.initial.pass.seat.me.0 ws → Opens l.pass.seat.me.0 ws)
    × (length l.room ≡ length l.initial.room)
