-- What a call of a store over memory does to its outcomes.
use Rattle.std.proofs.Common.{◌≡◌, ℕ, ◌+◌, ◌≤◌, ◌<◌, ◌⊎◌, true, List, [], ◌∷◌, ◌++◌, length, take, refl, sym, ◌∙◌, subst, inl, inr, arith, length-append}
use Rattle.std.proofs.lemmas.Bool.{cases_lt}
use Rattle.std.proofs.lemmas.List.{take_all, take-append-le}
use Rattle.vc_outside.specs.Crash.{Outcomes}
use Rattle.vc_outside.specs.Record.{after, Event, Left, Outcome}
use Rattle.vc_outside.specs.Memory.{Held, LeftBy, May, noted, shown, Since}
use Rattle.vc_outside.proofs.Events.{Outcome-pushed, read_after-push}

-- a call that records nothing
pub records_nothing : (h : Held) (step : List ℕ → List ℕ → Type 0) → ((c : List ℕ) → step c c)
    → Outcomes true (length h.events) (length h.events) (Since h) (Since h) (May h) (May h) step
records_nothing h step same = record {
  follows = λ _ c can. (c, can, same c);
  later = λ _. omega arith;
  nothing_else = λ _ t c le left. inl left;
  keeps = λ _ t c le left. left;
}

-- the images that the events leave open
abbrev pub Open : Held → List ℕ → Type 0
Open h c = Outcome h.events h.first (λ d. d ≡ h.first) c

module _ (h : Held) (e : Event) where
  abbrev At : List Event → List ℕ → Type 0
  At fs c = LeftBy fs h.first c

  abbrev fs : List Event
  fs = h.events ++ e ∷ []

  more : length fs ≡ length h.events + 1
  more = length-append h.events (e ∷ [])

  prefix : (k : ℕ) (c : List ℕ) → k ≤ length h.events → At (take k fs) c → At (take k h.events) c
  prefix k c le left = subst (λ (gs : List Event). At gs c) (take-append-le k h.events (e ∷ []) le) left

  back : (k : ℕ) (c : List ℕ) → k ≤ length h.events → At (take k h.events) c → At (take k fs) c
  back k c le left = subst (λ (gs : List Event). At gs c) (sym (take-append-le k h.events (e ∷ []) le)) left

  split : (t k : ℕ) (c : List ℕ) → t ≤ k → k ≤ length fs → At (take k fs) c
      → (k < length h.events + 1) ⊎ (length h.events + 1 ≤ k) → Since h t c ⊎ At fs c
  split t k c from to left (inl lt) = inl (k, from, omega arith, prefix k c (omega arith) left)
  split t k c from to left (inr past) = inr (subst (λ (gs : List Event). At gs c) (take_all k fs (omega (arith, more))) left)

  came_from : (step : List ℕ → List ℕ → Type 0) → step (shown h) (after e (shown h))
      → ((c : List ℕ) → Left e (shown h) (Open h) c → (d : List ℕ) × May h d × step d c)
      → (c : List ℕ) → May (noted e h) c → (d : List ℕ) × May h d × step d c
  came_from step moves steps c (inl is) = (shown h, inl refl, subst (step (shown h)) (sym (is ∙ read_after-push h.events e h.first)) moves)
  came_from step moves steps c (inr left) = steps c (Outcome-pushed h.events e h.first (λ d. d ≡ h.first) c left)

  -- a call that records an event: the image takes the step, and so does each image that the events leave open
  pub records_one : (step : List ℕ → List ℕ → Type 0) → step (shown h) (after e (shown h))
      → ((c : List ℕ) → Left e (shown h) (Open h) c → (d : List ℕ) × May h d × step d c)
      → Outcomes true (length h.events) (length (noted e h).events) (Since h) (Since (noted e h)) (May h) (May (noted e h)) step
  records_one step moves steps = record {
    follows = λ _ c can. came_from step moves steps c can;
    later = λ _. omega (arith, more);
    nothing_else = λ _ t c le (k, from, to, left). split t k c from to left (cases_lt k (length h.events + 1));
    keeps = λ _ t c le (k, from, to, left). (k, from, omega (arith, more), back k c to left);
  }
