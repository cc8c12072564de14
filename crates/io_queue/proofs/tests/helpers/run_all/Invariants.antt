-- All passes are of the volume, with nothing open, and benches are empty.
use Rattle.std.proofs.Common.{◌≡◌, true, All, IfSome, length}
use Rattle.frag_pool.specs.Bench.{is_empty}
use Rattle.hist_lock.specs.Known.{view}
use Rattle.io_queue.specs.Laws.Idle.{IsIdle}
use Rattle.io_queue.specs.Pass.{IsPass, NothingOpen}
use Rattle.io_queue.proofs.tests.helpers.run_all.Given as goal

abbrev pub invariant-loop : goal.invariant-loop
invariant-loop g l = IsPass l.volume.lock.table.shared.table_id l.volume.geometry l.volume.cipher l.pass.seat
    × NothingOpen (view l.pass.seat)
    × All (λ t. IsIdle l.volume.lock.table.shared.table_id l.volume.geometry l.volume.cipher t.pass.seat
    × IfSome t.bench (λ b. is_empty b ≡ true)) l.tasks.items

abbrev pub invariant-loop-task : goal.invariant-loop-task
invariant-loop-task g l = IsPass l.volume.lock.table.shared.table_id l.volume.geometry l.volume.cipher l.pass.seat
    × NothingOpen (view l.pass.seat)
    × All (λ t. IsIdle l.volume.lock.table.shared.table_id l.volume.geometry l.volume.cipher t.pass.seat) l.tasks.items

abbrev pub decreases-loop-task : goal.decreases-loop-task
decreases-loop-task g l = length l.tasks.items
