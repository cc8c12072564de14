-- The shares of several passes, in one unit 1 / 2^top, so that they can be added as numbers.
--
-- Weighs top v x          the share of v is x / 2^top
-- Weigh top vs x          the shares of all passes of the list are x / 2^top together
-- SameSum vs ws           the passes ws have the shares together that the passes vs had
use Rattle.std.specs.Prelude.{◌≡◌, ℕ, ◌+◌, ◌*◌, ◌^◌, List, [], ◌∷◌}
use Rattle.hist_lock.specs.declared.view.View.{View}

module _ {T E : Type 0} where
  abbrev pub Weighs : ℕ → View T E → ℕ → Type 0
  Weighs top v x = v.part * 2 ^ top ≡ x * 2 ^ v.halvings

  abbrev pub Weigh : ℕ → List (View T E) → ℕ → Type 0
  Weigh top [] x = x ≡ 0
  Weigh top (v ∷ vs) x = (y : ℕ) × (z : ℕ) × Weighs top v y × Weigh top vs z × (x ≡ y + z)

  -- A split may have made the unit smaller.
  abbrev pub SameSum : List (View T E) → List (View T E) → Type 0
  SameSum vs ws = (top x : ℕ) → Weigh top vs x → (k : ℕ) × Weigh (top + k) ws (x * 2 ^ k)
