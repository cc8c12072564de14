-- A sink over memory, as contracts see it.
use Rattle.std.specs.Prelude.{ℕ, List}

pub record Output : Type 0 where
  -- the bytes that it took
  pub contents : List ℕ
  -- the number of the next call
  pub next : ℕ
  -- the numbers of the calls that fail
  pub fails : List ℕ
  -- the count of failed calls
  pub faults : ℕ
