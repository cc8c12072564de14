-- What a state of the core stands for: an opening state and a history.
--
-- plain ..                what the volume's units decipher to in this image
-- unit_of ..              the unit of the container that is unit u of the volume
-- SameElsewhere ..        two images agree outside the volume and in its protected range
-- Contents ..             what holds of the images at the opening and now, if they are known
-- Sound base h now        the state now is what the state base became in the history h
use Rattle.std.specs.Prelude.{◌≡◌, ◌<◌, ◌≤◌, ℕ, ◌+◌, ◌*◌, ◌/◌, true, List, [], ◌∷◌, ◌++◌, Option, Some, length, take, drop, map, slice_get, All, AllPairs}
use Rattle.range_base.specs.Range.{IsInRange, Overlap}
use Rattle.hidden_guard.specs.Protection.{Touches}
use Rattle.vc_layout.specs.declared.geometry.Geometry.{Geometry}
use Rattle.vc_outside.specs.Told.{Both}
use Rattle.vc_outside.specs.Crash.{IsLasting}
use Rattle.vc_outside.specs.declared.store.Store.{Ghosts as StoreGhosts}
use Rattle.cipher_base.specs.declared.unit.UnitCipher.{Ghosts as CipherGhosts}
use Rattle.sector_model.specs.Array.{Array, Holds, sectors_of, unit, units_of, Volume}
use Rattle.sector_model.specs.History.{after, is_flushed, is_frozen, open_writes}
use Rattle.sector_model.specs.Legal.{IsOrdered, IsTold}
use Rattle.sector_model.specs.Marks.{AreMarks, marks_in}
use Rattle.sector_model.specs.declared.entry.Entry.{Entry}
use Rattle.sector_model.specs.declared.entry.FaultMark.{FaultMark}
use Rattle.io_core.specs.State.{IsPlacedWrite, State, volume_of, write_of}
use Rattle.io_core.specs.declared.part.PartState.{PartState}
use Rattle.io_core.specs.declared.part.PartState.TheVariants.{Waiting, Stored, Spoilt}
use Rattle.io_core.specs.declared.prepared.Prepared.{Prepared}

abbrev pub volume : {S C : Type 0} → State S C → Volume
volume s = volume_of s.geometry s.guard.range

-- the marks of the fragments that failed
abbrev pub mark_of : PartState → List FaultMark
mark_of Waiting = []
mark_of Stored = []
mark_of (Spoilt mark) = mark ∷ []

abbrev pub marks_of_parts : List PartState → List FaultMark
marks_of_parts [] = []
marks_of_parts (s ∷ ss) = mark_of s ++ marks_of_parts ss

abbrev pub marks_pending : List Prepared → List FaultMark
marks_pending [] = []
marks_pending (p ∷ ps) = marks_of_parts p.parts.items ++ marks_pending ps

-- Two images agree outside the volume, and in the units of the protected range.
pub record SameElsewhere (g : Geometry) (range : Option (ℕ × ℕ)) (old new : List ℕ) : Type 0 where
  pub as_long : length new ≡ length old
  pub before : take g.start new ≡ take g.start old
  pub behind : drop (g.start + g.sectors * g.sector) new ≡ drop (g.start + g.sectors * g.sector) old
  pub protected : (u : ℕ) → Touches range u 1 → unit u new ≡ unit u old

module _ {S C : Type 0} (store : StoreGhosts S) (cipher : CipherGhosts C) where
  abbrev pub plain : C → Geometry → List ℕ → Array
  plain c g image u = cipher.deciphered c (g.start / 512 + u) (unit (g.start / 512 + u) image)

  -- Of each fragment that was stored, the units decipher to its data.
  abbrev pub StoredHolds : C → Geometry → List ℕ → Prepared → Type 0
  StoredHolds c g image p = (j : ℕ) → j < units_of p.bytes.items → slice_get p.parts.items (j / 512) ≡ Some Stored
      → plain c g image (g.sector / 512 * p.first + j) ≡ unit j p.bytes.items

  -- The array after the history is what the image deciphers to, with the data of each open write laid over it.
  pub record Contents (base : State S C) (h : List Entry) (now : State S C) (old new : List ℕ) : Type 0 where
    pub told : IsTold (volume base) (plain base.cipher base.geometry old) h
    pub under : All (λ w. Holds (volume base) w.first w.bytes (after (volume base) (plain base.cipher base.geometry old) h)) (open_writes h)
    pub clear : (u : ℕ) → All (λ w. ¬ IsInRange (base.geometry.sector / 512 * w.first) (units_of w.bytes) u) (open_writes h)
        → plain base.cipher base.geometry new u ≡ after (volume base) (plain base.cipher base.geometry old) h u
    pub stored : All (StoredHolds base.cipher base.geometry new) now.pending
    pub elsewhere : SameElsewhere base.geometry base.guard.range old new

  pub record Sound (base : State S C) (h : List Entry) (now : State S C) : Type 0 where
    pub ordered : IsOrdered (volume base) h
    pub frozen : now.guard.frozen ≡ is_frozen h
    -- the pending writes are the open ones
    pub writes : map write_of now.pending ≡ open_writes h
    pub placed : All (IsPlacedWrite (volume base)) (open_writes h)
    pub apart : AllPairs (λ w x. ¬ Overlap w.first (sectors_of (volume base) w.bytes) x.first (sectors_of (volume base) x.bytes)) (open_writes h)
    pub cipher_same : now.cipher ≡ base.cipher
    pub geometry_same : now.geometry ≡ base.geometry
    pub range_same : now.guard.range ≡ base.guard.range
    pub capacity_same : now.capacity ≡ base.capacity
    pub size_same : store.size now.disk ≡ store.size base.disk
    pub later : store.faults base.disk ≤ store.faults now.disk
    pub marks : AreMarks (store.faults base.disk) (store.faults now.disk) (marks_in h ++ marks_pending now.pending)
    pub contents : Both (store.image base.disk) (store.image now.disk) (Contents base h now)
    pub lasting : is_flushed h ≡ true → now.pending ≡ []
        → IsLasting store.tells (store.image now.disk) (store.may_leave now.disk)
