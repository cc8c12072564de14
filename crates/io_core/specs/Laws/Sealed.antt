-- What became of a fragment whose data was written to the store.
--
-- IsOutcome before now s            it was stored, or the write failed while the count went from before to now
-- Deciphers dec first bytes image   the units of the image from `first` on decipher to these bytes
use Rattle.std.specs.Prelude.{◌≡◌, ◌<◌, ℕ, ◌+◌, ◌/◌, List, length, ⊤}
use Rattle.vc_base.specs.Bytes.{piece}
use Rattle.sector_model.specs.Marks.{IsMark}
use Rattle.io_core.specs.declared.part.PartState.{PartState}
use Rattle.io_core.specs.declared.part.PartState.TheVariants.{Waiting, Stored, Spoilt}

abbrev pub IsOutcome : ℕ → ℕ → PartState → Type 0
IsOutcome before now Waiting = ⊥
IsOutcome before now Stored = ⊤
IsOutcome before now (Spoilt mark) = (mark ≡ record { before = before; after = now }) × IsMark before now mark

abbrev pub Deciphers : (ℕ → List ℕ → List ℕ) → ℕ → List ℕ → List ℕ → Type 0
Deciphers dec first bytes image = (j : ℕ) → j < length bytes / 512 → dec (first + j) (piece 512 (first + j) image) ≡ piece 512 j bytes
