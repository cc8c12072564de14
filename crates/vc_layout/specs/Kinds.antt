-- The slots that are tried for each kind, in order.
use Rattle.std.specs.Prelude.{List, [], ◌∷◌}
use Rattle.vc_layout.specs.declared.kind.Kind.{Kind}
use Rattle.vc_layout.specs.declared.kind.Kind.TheVariants.{Any, StandardOnly, HiddenOnly, AnyBackup, StandardBackup, HiddenBackup}
use Rattle.vc_layout.specs.declared.slots.Slot.{Slot}
use Rattle.vc_layout.specs.declared.slots.Slot.TheVariants.{Standard, Hidden, BackupStandard, BackupHidden}

abbrev pub slots_of : Kind → List Slot
slots_of Any = Standard ∷ Hidden ∷ []
slots_of StandardOnly = Standard ∷ []
slots_of HiddenOnly = Hidden ∷ []
slots_of AnyBackup = BackupStandard ∷ BackupHidden ∷ []
slots_of StandardBackup = BackupStandard ∷ []
slots_of HiddenBackup = BackupHidden ∷ []
