-- All passes are of the volume, with nothing open, and all benches empty.
use Rattle.std.proofs.Common.{◌≡◌, true, All, length}
use Rattle.frag_pool.specs.Bench.{is_empty}
use Rattle.hist_lock.specs.Known.{view}
use Rattle.io_queue.specs.Laws.Idle.{IsIdle}
use Rattle.io_queue.specs.Pass.{IsPass, NothingOpen}
use Rattle.io_queue.proofs.tests.threads.make_by_threads.Given as goal

abbrev pub invariant-loop-requests : goal.invariant-loop-requests
invariant-loop-requests g l = IsPass l.volume.lock.table.shared.table_id l.volume.geometry l.volume.cipher l.pass.seat
    × NothingOpen (view l.pass.seat)
    × All (λ c. IsIdle l.volume.lock.table.shared.table_id l.volume.geometry l.volume.cipher c.pass.seat
    × (is_empty c.bench ≡ true)) l.clients.items

abbrev pub invariant-loop-client : goal.invariant-loop-client
invariant-loop-client g l = IsPass l.volume.lock.table.shared.table_id l.volume.geometry l.volume.cipher l.pass.seat
    × NothingOpen (view l.pass.seat)
    × All (λ c. IsIdle l.volume.lock.table.shared.table_id l.volume.geometry l.volume.cipher c.pass.seat) l.clients.items

abbrev pub decreases-loop-client : goal.decreases-loop-client
decreases-loop-client g l = length l.clients.items
