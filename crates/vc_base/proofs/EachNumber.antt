-- Two functions that agree at each number below a limit, by computing.
--
-- The test goes through the numbers below n; if it is true, the functions agree at each of them.
use Rattle.std.proofs.Common.{◌≡◌, ℕ, zero, suc, ◌<◌, Bool, true, false, ◌&&◌, eqb, refl, arith, inl, inr}
use Rattle.std.proofs.lemmas.Bool.{cases_eq, eqb-true}

-- f and g agree below n
unfoldable pub agree_below : (ℕ → ℕ) → (ℕ → ℕ) → ℕ → Bool
agree_below f g zero = true
agree_below f g (suc n) = eqb (f n) (g n) && agree_below f g n

pub both_of : (x y : Bool) → (x && y) ≡ true → (x ≡ true) × (y ≡ true)
both_of true true h = (refl, refl)
both_of true false h = cc
both_of false true h = cc
both_of false false h = cc

pub agree_at : (f g : ℕ → ℕ) (n : ℕ) → agree_below f g n ≡ true → (m : ℕ) → m < n → f m ≡ g m
unfolding agree_below
agree_at f g zero h m below = absurd (omega arith)
agree_at f g (suc n) h m below =
    let both = both_of (eqb (f n) (g n)) (agree_below f g n) h in
    elim (cases_eq m n) [
      | inl same ↦ rw same (eqb-true (f n) (g n) both.0)
      | inr other ↦ agree_at f g n both.1 m (omega arith)
    ]
