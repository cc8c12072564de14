-- Data units that were read. Only private contracts cite it.
--
-- AreUnits image unit bytes     the bytes are the container's from the data unit `unit` on, if its contents are known
use Rattle.std.specs.Prelude.{◌≡◌, ℕ, ◌+◌, ◌*◌, List, Option, length, slice_range, IfSome}

abbrev pub AreUnits : Option (List ℕ) → ℕ → List ℕ → Type 0
AreUnits image unit bytes = IfSome image (λ b. bytes ≡ slice_range b (unit * 512) (unit * 512 + length bytes))
