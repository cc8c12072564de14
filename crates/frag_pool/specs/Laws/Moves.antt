-- What a step tells the pass that takes it: of its view before, the jobs that came or left, and its view after.
use Rattle.std.specs.Prelude.{◌≡◌, ℕ, true, false, List, [], ◌∷◌, ◌++◌}
use mathlib.Core.Option.{some}
use lib.ListN.{get_elem?}
use Rattle.frag_pool.specs.declared.job.Job.{Job}
use Rattle.frag_pool.specs.declared.view.View.{View}
use Rattle.frag_pool.specs.Deque.{won}

abbrev pub pushing : View → List Job → View → Type 0
pushing v jobs w = w ≡ record { owns = v.owns; alone = v.alone; pushed = v.pushed ++ jobs; got = v.got }

-- v, after it got a job from a place
abbrev pub richer : View → ℕ → Job → View
richer v place job = record { owns = v.owns; alone = v.alone; pushed = v.pushed; got = v.got ++ won place job ∷ [] }

-- a job is got; the bench knows that it is the one that was pushed at its place
abbrev pub Getting : View → List Job → View → Type 0
Getting v jobs w =
    (place : ℕ) × (job : Job) × (jobs ≡ job ∷ []) × (w ≡ richer v place job)
    × (v.owns ≡ true → get_elem? v.pushed place ≡ some job)

-- v, no longer the only pass
abbrev pub in_company : View → View
in_company v = record { owns = v.owns; alone = false; pushed = v.pushed; got = v.got }
