-- Eight states side by side: vector r has in lane j word r of state j.
use Rattle.std.specs.Prelude.{◌≡◌, ◌<◌, ℕ, List, [], ◌∷◌, slice_index, slice_index_or}
use Rattle.vc_base.specs.Words.{AreWords}

-- the state in lane j
abbrev pub lane : ℕ → List (List ℕ) → List ℕ
lane j x =
    let word : ℕ → ℕ = λ r. slice_index (slice_index_or x r []) j in
    word 0 ∷ word 1 ∷ word 2 ∷ word 3 ∷ []

-- x is eight states
pub record AreLanes (x : List (List ℕ)) : Type 0 where
  pub row : (r : ℕ) → r < 4 → AreWords 8 (slice_index_or x r [])

-- eight states become what f makes of each
pub record InEachLane (f : List ℕ → List ℕ) (x y : List (List ℕ)) : Type 0 where
  pub lanes : AreLanes y
  pub each : (j : ℕ) → j < 8 → lane j y ≡ f (lane j x)
