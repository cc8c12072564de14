-- Pending writes by their names.
--
-- named caller number ps     the first of the writes ps that is request `number` of `caller`
use Rattle.std.specs.Prelude.{ℕ, List, [], ◌∷◌, Option, Some, None, if◌then◌else◌}
use Rattle.sector_model.specs.History.{has_name}
use Rattle.io_core.specs.State.{write_of}
use Rattle.io_core.specs.declared.prepared.Prepared.{Prepared}

abbrev pub named : ℕ → ℕ → List Prepared → Option Prepared
named caller number [] = None
named caller number (w ∷ ws) = if has_name caller number (write_of w) then Some w else named caller number ws
