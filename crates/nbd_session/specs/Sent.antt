-- What was written of a reply.
--
-- GrowsInPart old new xs   the first bytes of xs were added at the end, but not all
-- Replied ..               the reply was written whole, or it wasn't and the sink refused the rest
use Rattle.std.specs.Prelude.{◌≡◌, ◌<◌, ◌⊎◌, ℕ, List, length, take, Option, Some, None}
use Rattle.nbd_wire.specs.declared.end.End.{End}
use Rattle.nbd_wire.specs.declared.end.End.TheVariants.{NoMemory, WriteFault}
use Rattle.vc_outside.specs.Told.{Grows}

abbrev pub GrowsInPart : Option (List ℕ) → Option (List ℕ) → List ℕ → Type 0
GrowsInPart old new xs = (n : ℕ) × (n < length xs) × Grows old new (take n xs)

abbrev pub Replied : Option (List ℕ) → Option (List ℕ) → List ℕ → Option End → Type 0
Replied held now whole None = Grows held now whole
Replied held now whole (Some how) = GrowsInPart held now whole × ((how ≡ WriteFault) ⊎ (how ≡ NoMemory))
