-- The pair of a slot: a primary header at the container's start, and its backup at the end.
--
-- primary_of, backup_of slot     the two slots of the pair
-- kind_of slot                   the kind of header that opens by the pair's primary slot alone
-- OnlyPrimary slot old new       only bytes of the pair's primary slot may differ
-- OnlyPair slot old new          only bytes of the pair's two slots may differ
use Rattle.std.specs.Prelude.{ℕ, List, length}
use Rattle.vc_layout.specs.Layout.{place_of}
use Rattle.vc_layout.specs.declared.kind.Kind.{Kind}
use Rattle.vc_layout.specs.declared.kind.Kind.TheVariants.{StandardOnly, HiddenOnly}
use Rattle.vc_layout.specs.declared.slots.Slot.{Slot}
use Rattle.vc_layout.specs.declared.slots.Slot.TheVariants.{Standard, Hidden, BackupStandard, BackupHidden}
use Rattle.vc_outside.specs.Told.{SameOutside}

abbrev pub primary_of : Slot → Slot
primary_of Standard = Standard
primary_of Hidden = Hidden
primary_of BackupStandard = Standard
primary_of BackupHidden = Hidden

abbrev pub backup_of : Slot → Slot
backup_of Standard = BackupStandard
backup_of Hidden = BackupHidden
backup_of BackupStandard = BackupStandard
backup_of BackupHidden = BackupHidden

abbrev pub kind_of : Slot → Kind
kind_of Standard = StandardOnly
kind_of Hidden = HiddenOnly
kind_of BackupStandard = StandardOnly
kind_of BackupHidden = HiddenOnly

abbrev pub OnlyPrimary : Slot → List ℕ → List ℕ → Type 0
OnlyPrimary slot old new = SameOutside (place_of (primary_of slot) (length old)) 512 old new

-- by way of an image that differs in the primary slot alone
pub record OnlyPair (slot : Slot) (old new : List ℕ) : Type 0 where
  pub between : List ℕ
  pub primary : OnlyPrimary slot old between
  pub backup : SameOutside (place_of (backup_of slot) (length old)) 512 between new
