-- What the views of the passes say after a step. One view changes at its place, or a view is added at the
-- end, and each job that was got is where it was.
use Rattle.std.proofs.Common.{◌≡◌, ◌≢◌, ◌⊎◌, ℕ, List, [], ◌∷◌, ◌++◌, length, set, sym, ap, ◌∙◌, subst, inl, inr, ⊎_elim}
use mathlib.Core.Logic.{dite}
use mathlib.Core.Option.{some, some-injective, some-ne-none}
use native.Mathlib.Decide.{ℕ_discrete}
use lib.ListN.{get_elem?}
use Rattle.crossbeam_deque.proofs.Lists.{at_set, at_snoc, set_else}
use Rattle.frag_pool.specs.declared.job.Job.{Job}
use Rattle.frag_pool.specs.declared.view.Won.{Won}
use Rattle.frag_pool.specs.declared.view.View.{View}
use Rattle.frag_pool.specs.Deque.{won, thief, Got}
use Rattle.frag_pool.specs.Laws.Moves.{richer}
use Rattle.frag_pool.proofs.Lists.{snoc_cases, same_set}

-- what holds of the new view at its place, and of the others at theirs, holds at each place
pub at_change : (P : ℕ → View → Type 0) (vs : List View) (i : ℕ) (w : View) → P i w
    → ((j : ℕ) (u : View) → j ≢ i → get_elem? vs j ≡ some u → P j u)
    → (j : ℕ) (u : View) → get_elem? (set vs i w) j ≡ some u → P j u
at_change P vs i w mine others j u e = ⊎_elim
    (λ (t : (j ≡ i) × (w ≡ u)). subst (λ (z : ℕ × View). P z.0 z.1) (λ k. (sym t.0 k, t.1 k)) mine)
    (λ (t : (j ≢ i) × (get_elem? vs j ≡ some u)). others j u t.0 t.1)
    (at_set vs i j w u e)

pub no_element : (l : List Won) (k : ℕ) (x : Won) → l ≡ [] → get_elem? l k ≡ some x → ⊥
no_element l k x none e = some-ne-none x (sym e ∙ ap (λ (m : List Won). get_elem? m k) none)

-- two views at one place are one
pub one_view : (vs : List View) (i j : ℕ) (v u : View) → get_elem? vs i ≡ some v → get_elem? vs j ≡ some u → i ≡ j → v ≡ u
one_view vs i j v u at at' same =
    some-injective v u (sym at ∙ ap (λ (k : ℕ). get_elem? vs k) same ∙ at')

module _ (views : List View) (port : ℕ) (v w : View) (at : get_elem? views port ≡ some v) where
  -- a job that was got is there, if its own pass still has it
  pub still_got : ((k : ℕ) (x : Won) → get_elem? v.got k ≡ some x → get_elem? w.got k ≡ some x)
      → (i k : ℕ) (x : Won) → Got views i k x → Got (set views port w) i k x
  still_got keeps i k x g = dite (ℕ_discrete i port)
      (λ same.
      let is : g.0 ≡ v = one_view views i port g.0 v g.1 at same in (
        w,
        ap (λ (j : ℕ). get_elem? (set views port w) j) same ∙ same_set views port v w at,
        keeps k x (subst (λ (u : View). get_elem? u.got k ≡ some x) is g.2),
      ))
      (λ other. (g.0, set_else views port i w other ∙ g.1, g.2))

  -- a job that is got was got before, if the changed pass has no more
  pub got_before : w.got ≡ v.got → (i k : ℕ) (x : Won) → Got (set views port w) i k x → Got views i k x
  got_before same i k x g = ⊎_elim
      (λ (t : (i ≡ port) × (w ≡ g.0)). (
        v,
        ap (λ (j : ℕ). get_elem? views j) t.0 ∙ at,
        ap (λ (l : List Won). get_elem? l k) (sym same) ∙ subst (λ (u : View). get_elem? u.got k ≡ some x) (sym t.1) g.2,
      ))
      (λ (t : (i ≢ port) × (get_elem? views i ≡ some g.0)). (g.0, t.1, g.2))
      (at_set views port i w g.0 g.1)

-- a job that is got was got before, or it is the new one
pub got_or_new : (views : List View) (port : ℕ) (v : View) (place : ℕ) (job : Job) → get_elem? views port ≡ some v
    → (i k : ℕ) (x : Won) → Got (set views port (richer v place job)) i k x
    → Got views i k x ⊎ ((i ≡ port) × (k ≡ length v.got) × (won place job ≡ x))
got_or_new views port v place job at i k x g = let w : View = richer v place job in ⊎_elim
    (λ (t : (i ≡ port) × (w ≡ g.0)). ⊎_elim
    (λ (e : get_elem? v.got k ≡ some x). inl (v, ap (λ (j : ℕ). get_elem? views j) t.0 ∙ at, e))
    (λ (e : (k ≡ length v.got) × (won place job ≡ x)). inr (t.0, e.0, e.1))
    (snoc_cases v.got (won place job) x k (subst (λ (u : View). get_elem? u.got k ≡ some x) (sym t.1) g.2)))
    (λ (t : (i ≢ port) × (get_elem? views i ≡ some g.0)). inl (g.0, t.1, g.2))
    (at_set views port i w g.0 g.1)

-- a new pass has got nothing
pub got_without : (views : List View) (i k : ℕ) (x : Won) → Got (views ++ thief ∷ []) i k x → Got views i k x
got_without views i k x g = ⊎_elim
    (λ (e : get_elem? views i ≡ some g.0). (g.0, e, g.2))
    (λ (e : thief ≡ g.0).
    absurd (no_element g.0.got k x (ap (λ (u : View). u.got) (sym e)) g.2))
    (at_snoc views thief g.0 i g.1)
