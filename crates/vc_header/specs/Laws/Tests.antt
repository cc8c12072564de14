-- The rules of a valid header as tests.
--
-- is_valid body slot len   the body is valid: `validity_is_decided` says that it is the same as `Valid`
use Rattle.std.specs.Prelude.{◌==◌, ◌&&◌, ◌||◌, nat_le, nat_lt, ℕ, ◌+◌, ◌%◌, Bool, List, take, drop, max}
use Rattle.vc_layout.specs.declared.slots.Slot.{Slot}
use Rattle.vc_layout.specs.declared.slots.Slot.TheVariants.{Standard, Hidden, BackupStandard, BackupHidden}
use Rattle.vc_header.specs.declared.fields.Fields.{Fields}
use Rattle.vc_header.specs.Crc.{crc}
use Rattle.vc_header.specs.Header.{field, fields_of}

abbrev pub is_sector_size : ℕ → Bool
is_sector_size s = s == 512 || (s == 1024 || (s == 2048 || s == 4096))

abbrev pub has_slot_size : Slot → ℕ → Bool
has_slot_size Standard hidden_size = hidden_size == 0
has_slot_size Hidden hidden_size = nat_lt 0 hidden_size
has_slot_size BackupStandard hidden_size = hidden_size == 0
has_slot_size BackupHidden hidden_size = nat_lt 0 hidden_size

abbrev pub meets : Fields → Slot → ℕ → Bool
meets f slot len =
    f.flags % 4 == 0 && is_sector_size f.sector && f.start % f.sector == 0 && f.volume_size % f.sector == 0
    && nat_le f.sector f.volume_size && nat_le 131072 f.start && nat_le f.volume_size f.encrypted
    && nat_le (f.start + max f.volume_size f.hidden_size + 131072) len && has_slot_size slot f.hidden_size

unfoldable pub is_valid : List ℕ → Slot → ℕ → Bool
is_valid body slot len =
    field 64 4 body == 0x56455241 && field 68 2 body == 5
    && field 72 4 body == crc (drop 192 body) && field 252 4 body == crc (take 188 body)
    && meets (fields_of body) slot len
