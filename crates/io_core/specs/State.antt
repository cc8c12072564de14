-- The state of a core.
--
-- State                   the state: where the volume is, the guard, and the pending writes
-- write_of p              the write that the history knows
-- volume_of s             the volume that the history's rules ask about
-- IsPlacedWrite v w       the write lies in the volume, and touches nothing protected
-- SameVolume old new      cipher, geometry, protected range and capacity stayed
-- Overlaps, HasPlace       what keeps a write from being admitted now
-- IsPlaced size g         the geometry g lies in a container of this size
use Rattle.std.specs.Prelude.{◌≡◌, ◌<◌, ◌≤◌, ℕ, ◌+◌, ◌*◌, ◌/◌, ◌%◌, ◌^◌, List, Option, length, All}
use Rattle.hidden_guard.specs.Protection.{Protection}
use Rattle.range_base.specs.Range.{Overlap}
use Rattle.vc_layout.specs.declared.geometry.Geometry.{Geometry}
use Rattle.vc_layout.specs.Layout.{IsSectorSize}
use Rattle.sector_model.specs.Array.{AreSectors, Fits, sectors_of, TouchesProtected, Volume}
use Rattle.sector_model.specs.History.{Write}
use Rattle.io_core.specs.declared.prepared.Prepared.{Prepared}

pub record State (S C : Type 0) : Type 0 where
  pub disk : S
  pub cipher : C
  pub geometry : Geometry
  pub guard : Protection
  pub pending : List Prepared
  pub capacity : ℕ

abbrev pub write_of : Prepared → Write
write_of p = record { caller = p.caller; number = p.number; first = p.first; bytes = p.bytes.items }

abbrev pub volume_of : Geometry → Option (ℕ × ℕ) → Volume
volume_of g range = record {
  per_sector = g.sector / 512;
  sectors = g.sectors;
  start = g.start / 512;
  protected = range;
}

pub record IsPlaced (size : ℕ) (g : Geometry) : Type 0 where
  pub sector : IsSectorSize g.sector
  pub start : g.start % 512 ≡ 0
  pub inside : g.start + g.sectors * g.sector ≤ size
  pub small : g.start + g.sectors * g.sector ≤ 2 ^ 60

-- the write is of whole sectors of the volume, none of them protected
pub record IsPlacedWrite (v : Volume) (w : Write) : Type 0 where
  pub whole : AreSectors v w.bytes
  pub fits : Fits v w.first (sectors_of v w.bytes)
  pub unprotected : ¬ TouchesProtected v w.first (sectors_of v w.bytes)

-- the same volume under the same cipher
pub record SameVolume {S C : Type 0} (old new : State S C) : Type 0 where
  pub cipher : new.cipher ≡ old.cipher
  pub geometry : new.geometry ≡ old.geometry
  pub range : new.guard.range ≡ old.guard.range
  pub capacity : new.capacity ≡ old.capacity

-- the pending write p overlaps count sectors from first on
abbrev pub Overlaps : Volume → ℕ → ℕ → Prepared → Type 0
Overlaps v first count p = Overlap first count p.first (sectors_of v p.bytes.items)

-- there is room for one more pending write, and none overlaps count sectors from first on
pub record HasPlace {S C : Type 0} (s : State S C) (first count : ℕ) : Type 0 where
  pub room : length s.pending < s.capacity
  pub free : All (λ p. ¬ Overlaps (volume_of s.geometry s.guard.range) first count p) s.pending
