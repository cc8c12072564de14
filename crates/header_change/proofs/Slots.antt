-- The slots of a pair, and what writes leave of them.
--
-- The primary slot ends before its backup starts, in each image of a container's length. So a change of one
-- leaves the other.
use Rattle.std.proofs.Common.{◌≡◌, ◌≤◌, ℕ, ◌+◌, ◌-◌, List, [], ◌∷◌, length, take, drop, refl, sym, ap, ◌∙◌, arith}
use Rattle.std.proofs.lemmas.List.{drop-drop, drop-take, take-take}
use Rattle.vc_outside.specs.Told.{SameOutside}
use Rattle.vc_outside.proofs.Writes.{outside-same}
use Rattle.vc_layout.specs.Kinds.{slots_of}
use Rattle.vc_layout.specs.Layout.{place_of}
use Rattle.vc_layout.specs.Laws.Sectors.{at_least_a_unit}
use Rattle.vc_layout.specs.declared.slots.Slot.{Slot}
use Rattle.vc_layout.specs.declared.slots.Slot.TheVariants.{Standard, Hidden, BackupStandard, BackupHidden}
use Rattle.vc_header.specs.Header.{fields_of, Meets, Valid}
use Rattle.vc_header.specs.declared.fields.Fields.{Fields}
use Rattle.header_seal.specs.Sealed.{header_at}
use Rattle.header_change.specs.Pair.{backup_of, kind_of, OnlyPair, OnlyPrimary, primary_of}

-- ---- places

pub place_inside : (slot : Slot) (len : ℕ) → 262656 ≤ len → place_of slot len + 512 ≤ len
place_inside Standard len long = omega (arith, long)
place_inside Hidden len long = omega (arith, long)
place_inside BackupStandard len long = omega (arith, long)
place_inside BackupHidden len long = omega (arith, long)

pub apart : (slot : Slot) (len : ℕ) → 262656 ≤ len
    → place_of (primary_of slot) len + 512 ≤ place_of (backup_of slot) len
apart Standard len long = omega (arith, long)
apart Hidden len long = omega (arith, long)
apart BackupStandard len long = omega (arith, long)
apart BackupHidden len long = omega (arith, long)

pub one_slot : (slot : Slot) → slots_of (kind_of slot) ≡ primary_of slot ∷ []
one_slot Standard = refl
one_slot Hidden = refl
one_slot BackupStandard = refl
one_slot BackupHidden = refl

-- ---- fields that meet the rules for one slot of a pair meet them for both

pub long_enough : (f : Fields) (slot : Slot) (len : ℕ) → Meets f slot len → 262656 ≤ len
long_enough f slot len m =
    omega (arith, at_least_a_unit f.sector m.sector, m.not_empty, m.behind_headers, m.before_backups)

pub meets_primary : (f : Fields) (slot : Slot) (len : ℕ) → Meets f slot len → Meets f (primary_of slot) len
meets_primary f Standard len m = m
meets_primary f Hidden len m = m
meets_primary f BackupStandard len m = record {
  no_system = m.no_system;
  sector = m.sector;
  start_whole = m.start_whole;
  size_whole = m.size_whole;
  not_empty = m.not_empty;
  behind_headers = m.behind_headers;
  encrypted = m.encrypted;
  before_backups = m.before_backups;
  fits_slot = m.fits_slot;
}
meets_primary f BackupHidden len m = record {
  no_system = m.no_system;
  sector = m.sector;
  start_whole = m.start_whole;
  size_whole = m.size_whole;
  not_empty = m.not_empty;
  behind_headers = m.behind_headers;
  encrypted = m.encrypted;
  before_backups = m.before_backups;
  fits_slot = m.fits_slot;
}

pub meets_backup : (f : Fields) (slot : Slot) (len : ℕ) → Meets f slot len → Meets f (backup_of slot) len
meets_backup f BackupStandard len m = m
meets_backup f BackupHidden len m = m
meets_backup f Standard len m = record {
  no_system = m.no_system;
  sector = m.sector;
  start_whole = m.start_whole;
  size_whole = m.size_whole;
  not_empty = m.not_empty;
  behind_headers = m.behind_headers;
  encrypted = m.encrypted;
  before_backups = m.before_backups;
  fits_slot = m.fits_slot;
}
meets_backup f Hidden len m = record {
  no_system = m.no_system;
  sector = m.sector;
  start_whole = m.start_whole;
  size_whole = m.size_whole;
  not_empty = m.not_empty;
  behind_headers = m.behind_headers;
  encrypted = m.encrypted;
  before_backups = m.before_backups;
  fits_slot = m.fits_slot;
}

meets_either : (f : Fields) (slot : Slot) (len : ℕ) → Meets f (backup_of slot) len → Meets f (primary_of slot) len
meets_either f Standard len m = meets_primary f BackupStandard len m
meets_either f Hidden len m = meets_primary f BackupHidden len m
meets_either f BackupStandard len m = meets_primary f BackupStandard len m
meets_either f BackupHidden len m = meets_primary f BackupHidden len m

-- so a body that is valid for the backup is valid for the primary slot
pub valid_either : (body : List ℕ) (slot : Slot) (len : ℕ) → Valid body (backup_of slot) len → Valid body (primary_of slot) len
valid_either body slot len v = record {
  magic = v.magic;
  version = v.version;
  keys_checksum = v.keys_checksum;
  fields_checksum = v.fields_checksum;
  fields = meets_either (fields_of body) slot len v.fields;
}

-- ---- what a change outside of a part leaves of it

same_after : (at n from : ℕ) (b c : List ℕ) → at + n ≤ from → SameOutside at n b c → drop from c ≡ drop from b
same_after at n from b c behind same =
    let cut : at + n + (from - (at + n)) ≡ from = omega (arith, behind) in
    ap (λ (k : ℕ). drop k c) (sym cut)
    ∙ sym (drop-drop (from - (at + n)) (at + n) c)
    ∙ ap (drop (from - (at + n))) same.after
    ∙ drop-drop (from - (at + n)) (at + n) b
    ∙ ap (λ (k : ℕ). drop k b) cut

same_before : (at n from m : ℕ) (b c : List ℕ) → from + m ≤ at → SameOutside at n b c
    → take m (drop from c) ≡ take m (drop from b)
same_before at n from m b c before same =
    sym (drop-take from m c)
    ∙ ap (drop from) (sym (take-take (from + m) at c before) ∙ ap (take (from + m)) same.before ∙ take-take (from + m) at b before)
    ∙ drop-take from m b

-- a change of the primary slot leaves its backup
pub backup_same : (slot : Slot) (b c : List ℕ) → 262656 ≤ length b → OnlyPrimary slot b c
    → header_at (backup_of slot) c ≡ header_at (backup_of slot) b
backup_same slot b c long only =
    ap (λ (n : ℕ). take 512 (drop (place_of (backup_of slot) n) c)) only.as_long
    ∙ ap (take 512) (same_after (place_of (primary_of slot) (length b)) 512 (place_of (backup_of slot) (length b)) b c
    (apart slot (length b) long) only)

pub fixed_place : (slot : Slot) (m n : ℕ) → place_of (primary_of slot) m ≡ place_of (primary_of slot) n
fixed_place Standard m n = refl
fixed_place Hidden m n = refl
fixed_place BackupStandard m n = refl
fixed_place BackupHidden m n = refl

-- a change of the backup slot leaves the primary one
pub primary_same : (slot : Slot) (b c : List ℕ) → 262656 ≤ length b
    → SameOutside (place_of (backup_of slot) (length b)) 512 b c
    → header_at (primary_of slot) c ≡ header_at (primary_of slot) b
primary_same slot b c long only =
    ap (λ (k : ℕ). take 512 (drop k c)) (fixed_place slot (length c) (length b))
    ∙ same_before (place_of (backup_of slot) (length b)) 512 (place_of (primary_of slot) (length b)) 512 b c
    (apart slot (length b) long) only

-- ---- only the slots of a pair

pub no_change : (slot : Slot) (b : List ℕ) → OnlyPair slot b b
no_change slot b = record {
  between = b;
  primary = outside-same (place_of (primary_of slot) (length b)) 512 b;
  backup = outside-same (place_of (backup_of slot) (length b)) 512 b;
}

pub primary_alone : (slot : Slot) (b c : List ℕ) → OnlyPrimary slot b c → OnlyPair slot b c
primary_alone slot b c only = record {
  between = c;
  primary = only;
  backup = outside-same (place_of (backup_of slot) (length b)) 512 c;
}

pub pair_length : (slot : Slot) (b c : List ℕ) → OnlyPair slot b c → length c ≡ length b
pair_length slot b c only = only.backup.as_long ∙ only.primary.as_long
