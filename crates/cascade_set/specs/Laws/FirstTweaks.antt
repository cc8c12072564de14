-- The first tweaks of units, one list for each layer.
use Rattle.std.specs.Prelude.{◌≡◌, ℕ, List}
use Rattle.vc_base.specs.Bytes.{piece}
use Rattle.cascade_set.specs.declared.keyed.Tweaks.{Tweaks}

-- place j has what the three layers make of unit n: their T_0 are a n, b n and c n
pub record AreTweaks (a b c : ℕ → List ℕ) (tweaks : Tweaks) (j n : ℕ) : Type 0 where
  pub first : piece 16 j tweaks.first ≡ a n
  pub second : piece 16 j tweaks.second ≡ b n
  pub third : piece 16 j tweaks.third ≡ c n
