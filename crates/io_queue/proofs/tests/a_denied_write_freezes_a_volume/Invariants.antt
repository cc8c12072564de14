-- Each request leaves the pass one of the volume, with nothing open, and the bench empty.
use Rattle.std.proofs.Common.{◌≡◌, true}
use Rattle.frag_pool.specs.Bench.{is_empty}
use Rattle.hist_lock.specs.Known.{view}
use Rattle.io_queue.specs.Pass.{IsPass, NothingOpen}
use Rattle.io_queue.proofs.tests.a_denied_write_freezes_a_volume.Given as goal

abbrev pub invariant-loop-case : goal.invariant-loop-case
invariant-loop-case g l = IsPass l.volume.lock.table.shared.table_id l.volume.geometry l.volume.cipher l.pass.seat
    × NothingOpen (view l.pass.seat) × (is_empty l.bench ≡ true)
