-- What clauses say of a bench and of a helper.
--
-- pushed b     all jobs that were pushed onto the bench, in their order
-- got b        those of them that the bench got itself, each with its place
-- sure b       how many first pushes can't be refused
-- helpers b    how many helpers its pool has
-- is_empty b   it is new or a `take` found nothing on it, and nothing was pushed since
-- stolen h     what the helper got: for each bench the jobs, each with its place
-- OneMore      one of several lists got one more job, and the others are the same
use Rattle.std.specs.Prelude.{◌≡◌, ◌≢◌, ◌<◌, ℕ, Bool, true, All, List, [], ◌∷◌, ◌++◌, length, map, slice_index_or}
use Rattle.crossbeam_deque.specs.Handles.{view, worker_view}
use Rattle.frag_pool.specs.declared.job.Job.{Job}
use Rattle.frag_pool.specs.declared.view.Won.{Won}
use Rattle.frag_pool.specs.declared.bench.Bench.{Bench}
use Rattle.frag_pool.specs.declared.helper.Thief.{Thief}
use Rattle.frag_pool.specs.declared.helper.Helper.{Helper}
use Rattle.frag_pool.specs.Deque.{won}

abbrev pub pushed : Bench → List Job
pushed b = (worker_view b.worker).pushed

abbrev pub got : Bench → List Won
got b = (worker_view b.worker).got

abbrev pub sure : Bench → ℕ
sure b = b.sure

abbrev pub helpers : Bench → ℕ
helpers b = b.helpers

abbrev pub is_empty : Bench → Bool
is_empty b = b.clean

abbrev pub stolen_from : Thief → List Won
stolen_from t = (view t.pass).got

abbrev pub stolen : Helper → List (List Won)
stolen h = map stolen_from h.thieves.items

-- it has the same helpers, and promises as many first pushes
pub record SameBench (old new : Bench) : Type 0 where
  pub same_helpers : helpers new ≡ helpers old
  pub same_sure : sure new ≡ sure old

-- a bench of a new pool with n helpers
pub record IsNewBench (n : ℕ) (b : Bench) : Type 0 where
  pub empty : is_empty b ≡ true
  pub pushed_none : pushed b ≡ []
  pub got_none : got b ≡ []
  pub sure_is : sure b ≡ 128
  pub helpers_are : helpers b ≡ n

-- a helper of a new pool with n benches
pub record IsNewHelper (n : ℕ) (h : Helper) : Type 0 where
  pub as_many : length (stolen h) ≡ n
  pub none : All (λ l. l ≡ []) (stolen h)

-- the job was got from some place
abbrev pub IsGot : Job → List Won → List Won → Type 0
IsGot job old new = (place : ℕ) × (new ≡ old ++ won place job ∷ [])

pub record OneMore (job : Job) (old new : List (List Won)) : Type 0 where
  pub bench : ℕ
  pub inside : bench < length old
  pub as_many : length new ≡ length old
  pub there : IsGot job (slice_index_or old bench []) (slice_index_or new bench [])
  pub others : (i : ℕ) → i ≢ bench → slice_index_or new i [] ≡ slice_index_or old i []
