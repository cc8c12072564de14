-- What a crash may leave of a container, if the store models it.
--
-- Between two syncs each range that was written, or that a longer length added, may hold any bytes after a
-- crash, the length may be any that the container had since, and other bytes stay. After a successful sync
-- a crash leaves what a read gives. A read adds nothing, and neither does a failed sync.
--
-- An outcome is an image that a crash may leave. A store models its outcomes at this moment, and by a clock
-- those at each moment since an earlier one. The image itself is always an outcome: a crash leaves something.
--
-- Stays old new               nothing more
-- Relength n old new          the old outcome, or one of n bytes that shares its prefix
-- Outcomes ..                 what a call does to the outcomes: at this moment, and at each since an earlier one
-- MayStay tells image can     a crash now may leave the image
-- IsLasting tells image can   a crash now leaves the image: it may leave that and nothing else
use Rattle.std.specs.Prelude.{◌≡◌, ◌≤◌, ◌⊎◌, ◌↔◌, ℕ, Bool, true, List, length, take, Option, MatchOption}

abbrev pub Stays : List ℕ → List ℕ → Type 0
Stays old new = new ≡ old

-- n bytes that share the prefix with old; past the end of old there may be any bytes
pub record SharesPrefix (n : ℕ) (old new : List ℕ) : Type 0 where
  pub as_long : length new ≡ n
  pub prefix : take (length old) new ≡ take n old

abbrev pub Relength : ℕ → List ℕ → List ℕ → Type 0
Relength n old new = (new ≡ old) ⊎ SharesPrefix n old new

-- Each outcome after the call is one before it, after a step. A crash since an earlier moment leaves what it
-- might have left before, or what it may leave now.
pub record Outcomes (tells : Bool) (before now : ℕ) (past since : ℕ → List ℕ → Type 0) (could can : List ℕ → Type 0)
    (step : List ℕ → List ℕ → Type 0) : Type 0 where
  pub follows : tells ≡ true → (c : List ℕ) → can c → (d : List ℕ) × could d × step d c
  pub later : tells ≡ true → before ≤ now
  pub nothing_else : tells ≡ true → (t : ℕ) (c : List ℕ) → t ≤ before → since t c → past t c ⊎ can c
  pub keeps : tells ≡ true → (t : ℕ) (c : List ℕ) → t ≤ before → past t c → since t c

-- A store that models its crashes knows its contents.
abbrev pub MayStay : Bool → Option (List ℕ) → (List ℕ → Type 0) → Type 0
MayStay tells image can = tells ≡ true → MatchOption image ⊥ (λ b. can b)

abbrev pub IsLasting : Bool → Option (List ℕ) → (List ℕ → Type 0) → Type 0
IsLasting tells image can = tells ≡ true → MatchOption image ⊥ (λ b. (c : List ℕ) → can c ↔ c ≡ b)
