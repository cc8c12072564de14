-- One deque: what its passes know of it, and the rule that they keep.
--
-- A deque has one pass of the bench that owns it, number 0, and one of each helper. A place is the number
-- of a job among all that were ever pushed, from 0. Jobs leave in the order of their places.
--
-- won p j              the job j, got from place p
-- Got views i k w      the k-th job that pass i got is w
-- AllGot pushed got    each place of what was pushed was got here
-- IsTaken job ..       got became one longer, by this job and the place where it was pushed
-- Kept items views     the rule: the deque has the jobs `items`, the next to leave first, and its passes
--                      know `views`
use Rattle.std.specs.Prelude.{◌≡◌, ◌<◌, ◌≤◌, ℕ, true, false, List, [], ◌∷◌, ◌++◌, length, drop}
use mathlib.Core.Option.{some}
use lib.ListN.{get_elem?}
use Rattle.frag_pool.specs.declared.job.Job.{Job}
use Rattle.frag_pool.specs.declared.view.Won.{Won}
use Rattle.frag_pool.specs.declared.view.View.{View}

abbrev pub won : ℕ → Job → Won
won place job = record { place = place; job = job }

-- the bench's own pass of a new deque, and a helper's
abbrev pub owner : View
owner = record { owns = true; alone = true; pushed = []; got = [] }

abbrev pub thief : View
thief = record { owns = false; alone = false; pushed = []; got = [] }

abbrev pub Got : List View → ℕ → ℕ → Won → Type 0
Got views i k w = (v : View) × (get_elem? views i ≡ some v) × (get_elem? v.got k ≡ some w)

abbrev pub AllGot : List Job → List Won → Type 0
AllGot pushed got = (p : ℕ) → p < length pushed → (k : ℕ) × (w : Won) × (get_elem? got k ≡ some w) × (w.place ≡ p)

abbrev pub IsTaken : Job → List Job → List Won → List Won → Type 0
IsTaken job pushed old new =
    (place : ℕ) × (new ≡ old ++ won place job ∷ []) × (get_elem? pushed place ≡ some job)

pub record Kept (items : List Job) (views : List View) : Type 0 where
  -- all jobs that were pushed, and how many of them have left
  pub pushed : List Job
  pub left : ℕ
  pub fits : left ≤ length pushed
  -- the others are in the deque
  pub stays : drop left pushed ≡ items
  -- what was got has left its place, and is the job that was pushed there
  pub was_pushed : (i k : ℕ) (w : Won) → Got views i k w → (w.place < left) × (get_elem? pushed w.place ≡ some w.job)
  -- no place is got twice
  pub once : (i j k l : ℕ) (u w : Won) → Got views i k u → Got views j l w → u.place ≡ w.place → (i ≡ j) × (k ≡ l)
  -- each job that left was got
  pub none_lost : (p : ℕ) → p < left → (i : ℕ) × (k : ℕ) × (w : Won) × Got views i k w × (w.place ≡ p)
  -- the bench's pass knows what was pushed, and whether it is the only pass
  pub owned : (i : ℕ) (v : View) → get_elem? views i ≡ some v → v.owns ≡ true → (i ≡ 0) × (v.pushed ≡ pushed)
  pub single : (i : ℕ) (v : View) → get_elem? views i ≡ some v → v.alone ≡ true → length views ≡ 1
