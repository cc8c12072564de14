-- A source over memory, as contracts see it.
use Rattle.std.specs.Prelude.{ℕ, List}

pub record Input : Type 0 where
  -- the bytes that are left
  pub left : List ℕ
  -- the most bytes that a call gives
  pub cut : ℕ
  -- the number of the next call
  pub next : ℕ
  -- the numbers of the calls that fail
  pub fails : List ℕ
  -- the count of failed calls
  pub faults : ℕ
