-- What each step tells the runner that takes it: of the step, the seat before, the number found and the seat after.
--
-- looked names      a load of the word
-- offered names     the word becomes the lesser of itself and the step's number
-- spent             a runner that was ended
use Rattle.std.specs.Prelude.{◌≡◌, ◌≢◌, ◌≤◌, ℕ, ◌+◌, min, false, Some, None}
use Rattle.atomic_table.specs.Table.{Me, Step}
use Rattle.race_word.specs.declared.view.View.{View}

module _ {R : Type 0} where
  -- the word was n: it is the limit or a named number, and nothing that the runner was told is less
  pub record Told (names : R → ℕ → Type 0) (v : View R) (n : ℕ) : Type 0 where
    pub never_rises : n ≤ v.bound
    pub named : (r : R) → v.names ≡ Some r → n ≢ v.limit → names r n

  abbrev pub told : ℕ → ℕ → View R → View R
  told n bound v = record v { steps = v.steps + 1; last = n; bound = bound }

  abbrev pub spent : View R
  spent = record { live = false; names = None; limit = 0; steps = 0; last = 0; bound = 0 }

module _ {S R : Type 0} where
  abbrev pub looked : (R → ℕ → Type 0) → Step S → Me S (View R) → ℕ → Me S (View R) → Type 0
  looked names st m n m' = (m' ≡ (told n (min m.0.bound n) m.0, m.1)) × Told names m.0 n

  abbrev pub offered : (R → ℕ → Type 0) → Step S → Me S (View R) → ℕ → Me S (View R) → Type 0
  offered names st m n m' = (m' ≡ (told n (min (min m.0.bound n) st.first) m.0, m.1)) × Told names m.0 n
