-- What a write takes to have its fragments enciphered.
--
-- IsJobOf n u b k j       j is the job of fragment k of a write of the caller n, whose data b begin with the data unit u
-- AreJobsOf n u b jobs    one job for each fragment, in order
-- IsWorkOf n u b w        w is made for that write
use Rattle.std.specs.Prelude.{◌≡◌, ℕ, ◌+◌, ◌*◌, List, length, min, slice_get, Some}
use Rattle.vc_base.specs.Bytes.{piece}
use Rattle.frag_pool.specs.declared.job.Job.{Job}
use Rattle.io_core.specs.Fragments.{fragments_of}
use Rattle.io_queue.specs.declared.work.Work.{Work}
use Rattle.io_queue.specs.declared.work.Work.TheVariants.{Alone, Shared}

pub record IsJobOf (caller unit : ℕ) (bytes : List ℕ) (k : ℕ) (j : Job) : Type 0 where
  pub by : j.caller ≡ caller
  pub only : j.number ≡ 0
  pub place : j.index ≡ k
  pub from : j.unit ≡ unit + 512 * k
  pub plain : j.plain.items ≡ piece 262144 k bytes

pub record AreJobsOf (caller unit : ℕ) (bytes : List ℕ) (jobs : List Job) : Type 0 where
  pub as_many : length jobs ≡ fragments_of bytes
  pub each : (k : ℕ) (j : Job) → slice_get jobs k ≡ Some j → IsJobOf caller unit bytes k j

abbrev pub IsWorkOf : ℕ → ℕ → List ℕ → Work → Type 0
IsWorkOf caller unit bytes (Alone plain room) = (plain.items ≡ bytes) × (length room.items ≡ min (length bytes) 262144)
IsWorkOf caller unit bytes (Shared jobs) = AreJobsOf caller unit bytes jobs.items
