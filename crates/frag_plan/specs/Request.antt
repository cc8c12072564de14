-- The data units that a request asks for.
use Rattle.std.specs.Prelude.{ℕ}

-- count units from first on
pub record Request : Type 0 where
  pub first : ℕ
  pub count : ℕ
