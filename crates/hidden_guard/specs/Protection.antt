-- The protection of a hidden volume against writes through the outer one. Units are data units of the
-- container.
use Rattle.std.specs.Prelude.{ℕ, Bool, Option, Some, None}
use Rattle.range_base.specs.Range.{Overlap}

-- a guard: the protected range as its first unit and its count, if there is one, and whether a write
-- was denied already
pub record Protection : Type 0 where
  pub range : Option (ℕ × ℕ)
  pub frozen : Bool

-- count units from first on touch a protected range: one of them is protected
abbrev pub Touches : Option (ℕ × ℕ) → ℕ → ℕ → Type 0
Touches None first count = ⊥
Touches (Some range) first count = Overlap first count range.0 range.1
