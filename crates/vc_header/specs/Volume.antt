-- Where the volume of a valid header is.
--
-- IsVolume f volume       the volume that fields describe
-- IsOfHidden f at         byte `at` of the container belongs to the hidden volume that fields describe
-- IsProtected f units u   the data unit u is one of the range `units`, a first unit and a count
use Rattle.std.specs.Prelude.{◌≡◌, ◌≤◌, ◌<◌, ℕ, ◌+◌, ◌/◌, max}
use Rattle.vc_layout.specs.declared.geometry.Geometry.{Geometry}
use Rattle.vc_header.specs.declared.fields.Fields.{Fields}

pub record IsVolume (f : Fields) (volume : Geometry) : Type 0 where
  pub start : volume.start ≡ f.start
  pub sectors : volume.sectors ≡ f.volume_size / f.sector
  pub sector : volume.sector ≡ f.sector

-- the greater of the two sizes counts
pub record IsOfHidden (f : Fields) (at : ℕ) : Type 0 where
  pub from : f.start ≤ at
  pub below : at < f.start + max f.volume_size f.hidden_size

pub record IsProtected (units : ℕ × ℕ) (u : ℕ) : Type 0 where
  pub from : units.0 ≤ u
  pub below : u < units.0 + units.1
