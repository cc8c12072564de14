-- The rule of the table. The word is the limit, or a number that the key names, and no live runner was told or
-- has offered a lesser one.
--
-- Knows key word v      what holds of each live runner
-- Kept names key s      the rule
use Rattle.std.specs.Prelude.{◌≡◌, ◌≢◌, ◌≤◌, ℕ, [], ◌∷◌, true, Some}
use mathlib.Core.Option.{some}
use lib.ListN.{get_elem?}
use Rattle.atomic_table.specs.Table.{State}
use Rattle.race_word.specs.declared.view.Key.{Key}
use Rattle.race_word.specs.declared.view.View.{View}

module _ {R : Type 0} where
  pub record Knows (key : Key R) (word : ℕ) (v : View R) : Type 0 where
    pub names : v.names ≡ Some key.names
    pub limit : v.limit ≡ key.limit
    pub bound : word ≤ v.bound

  pub record Kept {S : Type 0} (names : R → ℕ → Type 0) (key : Key R) (s : State S (View R)) : Type 0 where
    pub word : ℕ
    pub words : s.words ≡ word ∷ []
    pub named : word ≢ key.limit → names key.names word
    pub each : (i : ℕ) (v : View R) → get_elem? s.views i ≡ some v → v.live ≡ true → Knows key word v
