-- The fragments of a write: it is cut every 512 data units.
--
-- fragments_of bytes      how many fragments a write of these bytes has
-- IsWaiting s             the fragment wasn't stored yet
use Rattle.std.specs.Prelude.{◌≡◌, ℕ, ◌+◌, ◌/◌, List, length}
use Rattle.io_core.specs.declared.part.PartState.{PartState}
use Rattle.io_core.specs.declared.part.PartState.TheVariants.{Waiting}

abbrev pub fragments_of : List ℕ → ℕ
fragments_of bytes = (length bytes / 512 + 511) / 512

abbrev pub IsWaiting : PartState → Type 0
IsWaiting s = s ≡ Waiting
