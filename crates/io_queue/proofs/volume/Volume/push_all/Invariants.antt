-- Deposits add no entry.
use Rattle.std.proofs.Common.{[], List}
use Rattle.frag_pool.specs.Bench.{SameBench}
use Rattle.sector_model.specs.History.{Write}
use Rattle.io_queue.specs.Laws.Opens.{Opens}
use Rattle.io_queue.specs.Pass.{Call, IsPass}
use Rattle.io_queue.proofs.volume.Volume.push_all.Given as goal

abbrev pub invariant-loop-job : goal.invariant-loop-job
invariant-loop-job g l =
    (goal.iterator-loop-job g).can_next l.job-iterator × (goal.iterator-loop-job g).is_finite l.job-iterator
    × IsPass l.self.lock.table.shared.table_id l.self.geometry l.self.cipher l.pass.seat
    × Call l.initial.pass.seat.me.0 l.pass.seat.me.0 []
    × ((ws : List Write) → Opens l.initial.pass.seat.me.0 ws → Opens l.pass.seat.me.0 ws)
    × SameBench l.initial.bench l.bench
