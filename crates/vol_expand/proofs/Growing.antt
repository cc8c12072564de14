-- The fields of a grown volume: they meet the rules in the longer container.
use Rattle.std.proofs.Common.{◌≡◌, ◌≤◌, ◌<◌, ℕ, ◌+◌, ◌-◌, ◌%◌, ◌^◌, ◌==◌, ◌&&◌, Bool, true, List, sym, ◌∙◌, subst, arith}
use Rattle.std.specs.Prelude.{nat_le, nat_lt}
use Rattle.std.proofs.lemmas.Bool.{and_parts, eqb-true, leb-true, ltb-true}
use Rattle.vc_layout.specs.Laws.Sectors.{at_least_a_unit, group_whole, whole_without}
use Rattle.vc_layout.specs.declared.slots.Slot.{Slot}
use Rattle.vc_layout.specs.declared.slots.Slot.TheVariants.{Standard, BackupStandard}
use Rattle.vc_header.specs.Header.{Meets}
use Rattle.vc_header.specs.declared.fields.Fields.{Fields}
use Rattle.header_seal.specs.declared.opened.Opened.{Opened}
use Rattle.volume_format.specs.Formatted.{Sealing}
use Rattle.header_change.specs.Changed.{new_sealing}
use Rattle.vol_expand.specs.Expanded.{expanded_fields, is_expandable}

-- what the test of a size says
pub record Expandable (len size s : ℕ) : Type 0 where
  pub longer : len < size
  pub longest : size ≤ 2 ^ 40
  pub whole : size % s ≡ 0

pub expandable : (len size s : ℕ) → is_expandable len size s ≡ true → Expandable len size s
expandable len size s is =
    let parts = and_parts (nat_lt len size) (nat_le size (2 ^ 40) && size % s == 0) is in
    let more = and_parts (nat_le size (2 ^ 40)) (size % s == 0) parts.1 in
    record {
      longer = ltb-true len size parts.0;
      longest = leb-true size (2 ^ 40) more.0;
      whole = eqb-true (size % s) 0 more.1;
    }

-- the same of the result of a test of a length
pub tested : (n len size s : ℕ) (t : Bool) → t ≡ is_expandable n size s → t ≡ true → n ≡ len → Expandable len size s
tested n len size s t same is long =
    subst (λ (m : ℕ). Expandable m size s) long (expandable n size s (sym same ∙ is))

pub long_enough : (f : Fields) (len : ℕ) → Meets f Standard len → 262656 ≤ len
long_enough f len m =
    omega (arith, at_least_a_unit f.sector m.sector, m.not_empty, m.behind_headers, m.before_backups)

pub ends_before : (f : Fields) (len : ℕ) → Meets f Standard len → f.start + f.volume_size ≤ len - 131072
ends_before f len m = omega (arith, m.before_backups)

pub some_bytes : (f : Fields) (len : ℕ) → Meets f Standard len → 0 < f.volume_size
some_bytes f len m = omega (arith, at_least_a_unit f.sector m.sector, m.not_empty)

pub meets_longer : (f : Fields) (len size : ℕ) → len ≤ size → Meets f Standard len → Meets f Standard size
meets_longer f len size longer m = record {
  no_system = m.no_system;
  sector = m.sector;
  start_whole = m.start_whole;
  size_whole = m.size_whole;
  not_empty = m.not_empty;
  behind_headers = m.behind_headers;
  encrypted = m.encrypted;
  before_backups = omega (arith, m.before_backups, longer);
  fits_slot = m.fits_slot;
}

pub meets_grown : (f : Fields) (len size : ℕ) → Expandable len size f.sector → Meets f Standard len
    → Meets (expanded_fields size f) Standard size
meets_grown f len size can m = record {
  no_system = m.no_system;
  sector = m.sector;
  start_whole = m.start_whole;
  size_whole = whole_without f.sector (size - 131072) f.start m.sector
      (whole_without f.sector size 131072 m.sector can.whole (group_whole f.sector m.sector)) m.start_whole;
  not_empty = omega (arith, m.not_empty, m.before_backups, can.longer);
  behind_headers = m.behind_headers;
  encrypted = omega arith;
  before_backups = omega (arith, m.not_empty, m.before_backups, can.longer, m.fits_slot);
  fits_slot = m.fits_slot;
}

pub meets_standard : (slot : Slot) (f : Fields) (len : ℕ) → slot ≡ Standard → Meets f slot len → Meets f Standard len
meets_standard slot f len is m = subst (λ (s : Slot). Meets f s len) is m

pub meets_backup : (f : Fields) (len : ℕ) → Meets f Standard len → Meets f BackupStandard len
meets_backup f len m = record {
  no_system = m.no_system;
  sector = m.sector;
  start_whole = m.start_whole;
  size_whole = m.size_whole;
  not_empty = m.not_empty;
  behind_headers = m.behind_headers;
  encrypted = m.encrypted;
  before_backups = m.before_backups;
  fits_slot = m.fits_slot;
}

-- what is said of the grown header, in the words of the one that was opened
pub of_opened : (grown from : Opened) (password : List ℕ) (pim size len n : ℕ)
    → grown ≡ record from { fields = expanded_fields size from.fields } → len ≡ n
    → (P : ℕ → Sealing → Fields → Type 0)
    → P len (new_sealing password pim grown.prf grown) grown.fields
    → P n (new_sealing password pim from.prf from) (expanded_fields size from.fields)
of_opened grown from password pim size len n is same P said =
    subst (λ (m : ℕ). P m (new_sealing password pim from.prf from) (expanded_fields size from.fields)) same
    (subst (λ (o : Opened). P len (new_sealing password pim o.prf o) o.fields) is said)
