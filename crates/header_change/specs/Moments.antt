-- What a crash in the middle of a call may leave, and what then opens.
--
-- AtEachMoment ..                what a call of several writes and syncs does to the outcomes of a crash: each
--                                outcome, at any moment of the call, is one at its start after a step
-- Changes slot k f old new       the step of a change of the password: only bytes of the pair's slots may
--                                differ, and the old backup is there or the new primary header is
-- HasFields slot k f image       the slot carries the fields f, in an image with the length of a container
-- IsOpen slot k f image          the slot carries the fields f and is valid, so the sealing opens it
-- EitherStays .. P slot k f      if P holds of the backup in each outcome at the start of the call, under any
--                                sealing, then in each outcome at any moment of it P holds of the backup under
--                                that sealing, or of the primary header under the new one, k
-- BackupStays .. P slot f        the same, and it is always the backup
use Rattle.std.specs.Prelude.{◌≡◌, ◌≤◌, ◌⊎◌, ℕ, Bool, true, List, length}
use Rattle.vc_layout.specs.declared.slots.Slot.{Slot}
use Rattle.vc_header.specs.declared.fields.Fields.{Fields}
use Rattle.header_seal.specs.Sealed.{header_at}
use Rattle.volume_format.specs.Formatted.{Sealing}
use Rattle.volume_format.specs.Opens.{HasHeader, HasValid}
use Rattle.header_change.specs.Pair.{backup_of, OnlyPair, primary_of}

-- one of the outcomes at the start, after a step
abbrev pub After : (List ℕ → Type 0) → (List ℕ → List ℕ → Type 0) → List ℕ → Type 0
After could step c = (d : List ℕ) × could d × step d c

-- As `Outcomes`, which is of one call of the store. A crash since an earlier moment leaves what it might have
-- left before the call, or an outcome of the call.
pub record AtEachMoment (tells : Bool) (before now : ℕ) (past since : ℕ → List ℕ → Type 0) (could can : List ℕ → Type 0)
    (step : List ℕ → List ℕ → Type 0) : Type 0 where
  pub follows : tells ≡ true → (c : List ℕ) → can c → After could step c
  pub later : tells ≡ true → before ≤ now
  pub nothing_else : tells ≡ true → (t : ℕ) (c : List ℕ) → t ≤ before → since t c → past t c ⊎ After could step c
  pub keeps : tells ≡ true → (t : ℕ) (c : List ℕ) → t ≤ before → past t c → since t c

pub record Changes (slot : Slot) (k : Sealing) (f : Fields) (old new : List ℕ) : Type 0 where
  pub only : OnlyPair slot old new
  pub either : 262656 ≤ length old
      → (header_at (backup_of slot) new ≡ header_at (backup_of slot) old) ⊎ HasHeader new (primary_of slot) k f

pub record HasFields (slot : Slot) (k : Sealing) (f : Fields) (image : List ℕ) : Type 0 where
  pub long : 262656 ≤ length image
  pub header : HasHeader image slot k f

pub record IsOpen (slot : Slot) (k : Sealing) (f : Fields) (image : List ℕ) : Type 0 where
  pub header : HasHeader image slot k f
  pub valid : HasValid image slot k

-- `could` are the outcomes at the start of the call, and `left` those at any moment since.
abbrev pub EitherStays : Bool → (List ℕ → Type 0) → (List ℕ → Type 0) → (Slot → Sealing → Fields → List ℕ → Type 0)
    → Slot → Sealing → Fields → Type 0
EitherStays tells could left P slot k f = tells ≡ true → (old : Sealing)
    → ((d : List ℕ) → could d → P (backup_of slot) old f d)
    → (c : List ℕ) → left c → P (backup_of slot) old f c ⊎ P (primary_of slot) k f c

abbrev pub BackupStays : Bool → (List ℕ → Type 0) → (List ℕ → Type 0) → (Slot → Sealing → Fields → List ℕ → Type 0)
    → Slot → Fields → Type 0
BackupStays tells could left P slot f = tells ≡ true → (old : Sealing)
    → ((d : List ℕ) → could d → P (backup_of slot) old f d)
    → (c : List ℕ) → left c → P (backup_of slot) old f c
