-- Ranges of whole numbers, as of data units or sectors: count numbers from first on. The numbers of a
-- range may pass 2^64, and a range of count 0 is empty.
use Rattle.std.specs.Prelude.{ℕ, ◌+◌, ◌<◌, ◌≤◌}

-- k is one of count numbers from first on
pub record IsInRange (first count k : ℕ) : Type 0 where
  pub from : first ≤ k
  pub below : k < first + count

-- two ranges overlap: a number is in both
pub record Overlap (first count other others : ℕ) : Type 0 where
  pub common : ℕ
  pub in_first : IsInRange first count common
  pub in_other : IsInRange other others common
