-- The layout of a container of len bytes: a header group of 131,072 bytes at each end, with two slots
-- for headers in each, and the volumes between the groups. docs/FORMAT.md, "Layout", has the picture.
--
-- place_of slot len                 the offset of a slot's header
-- IsSectorSize s                    the sectors of a volume may have s bytes
-- IsContainerLength len             such a container can be opened
-- IsFormattable len s               it can be formatted, with sectors of s bytes in its outer volume
-- IsOuter len s volume              the outer volume that it then has
-- IsHideable len size s             it can get a hidden volume of `size` bytes with sectors of s bytes
-- IsHidden len size s volume        the hidden volume that it then has
use Rattle.std.specs.Prelude.{◌≡◌, ◌≤◌, ◌<◌, ◌⊎◌, ℕ, ◌+◌, ◌-◌, ◌/◌, ◌%◌, ◌^◌, List, codes}
use Rattle.vc_layout.specs.declared.geometry.Geometry.{Geometry}
use Rattle.vc_layout.specs.declared.slots.Slot.{Slot}
use Rattle.vc_layout.specs.declared.slots.Slot.TheVariants.{Standard, Hidden, BackupStandard, BackupHidden}

abbrev pub place_of : Slot → ℕ → ℕ
place_of Standard len = 0
place_of Hidden len = 65536
place_of BackupStandard len = len - 131072
place_of BackupHidden len = len - 65536

abbrev pub slot_name : Slot → List ℕ
slot_name Standard = codes "standard"
slot_name Hidden = codes "hidden"
slot_name BackupStandard = codes "backup-standard"
slot_name BackupHidden = codes "backup-hidden"

abbrev pub IsSectorSize : ℕ → Type 0
IsSectorSize s = (s ≡ 512) ⊎ (s ≡ 1024) ⊎ (s ≡ 2048) ⊎ (s ≡ 4096)

-- two header groups and the smallest sector at least
pub record IsContainerLength (len : ℕ) : Type 0 where
  pub shortest : 262656 ≤ len
  pub longest : len ≤ 2 ^ 60

-- two header groups and whole sectors between them, one at least
pub record IsFormattable (len s : ℕ) : Type 0 where
  pub sector : IsSectorSize s
  pub shortest : 262144 + s ≤ len
  pub longest : len ≤ 2 ^ 40
  pub whole : len % s ≡ 0

-- all that lies between the header groups
pub record IsOuter (len s : ℕ) (volume : Geometry) : Type 0 where
  pub start : volume.start ≡ 131072
  pub sectors : volume.sectors ≡ (len - 262144) / s
  pub sector : volume.sector ≡ s

-- whole sectors, one at least, between the header groups
pub record IsHideable (len size s : ℕ) : Type 0 where
  pub outer : IsFormattable len s
  pub not_empty : 0 < size
  pub whole : size % s ≡ 0
  pub fits : size ≤ len - 262144

-- the last bytes before the backup headers
pub record IsHidden (len size s : ℕ) (volume : Geometry) : Type 0 where
  pub start : volume.start ≡ len - 131072 - size
  pub sectors : volume.sectors ≡ size / s
  pub sector : volume.sector ≡ s
