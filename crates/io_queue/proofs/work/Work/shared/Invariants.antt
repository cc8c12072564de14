-- So far each job is that of its fragment, and there is room for the others.
use Rattle.std.proofs.Common.{◌≡◌, ◌≤◌, ℕ, length}
use Rattle.std.specs.Prelude.{slice_get, Some, vec_capacity}
use Rattle.frag_pool.specs.declared.job.Job.{Job}
use Rattle.io_queue.specs.Laws.Works.{IsJobOf}
use Rattle.io_queue.proofs.work.Work.shared.Given as goal

abbrev pub invariant-loop-index : goal.invariant-loop-index
invariant-loop-index l =
    (l.count ≤ vec_capacity l.jobs)
    × (length l.jobs.items ≡ l.index)
    × ((k : ℕ) (j : Job) → slice_get l.jobs.items k ≡ Some j → IsJobOf l.caller l.unit l.bytes k j)
