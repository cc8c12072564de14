-- A header's parts, the fields of its deciphered body, how a body is written, and when it is valid.
--
-- A header has 512 bytes: 64 of salt, then the 448 bytes of the body. Offsets are those in the header,
-- so the body begins at 64. Numbers are big-endian. docs/FORMAT.md, "Header", has the table.
--
-- salt_of, enciphered_body header   its two parts
-- keys_field header       the last 256 bytes of the body: the master keys and zeros
-- field at n body         the number of n bytes at an offset
-- fields_of body          the fields of a body
-- body_of f               the body that is written for fields
-- Meets f slot len        the fields meet the rules for a slot of a container of len bytes
-- Valid body slot len     the body is valid for that slot and length: magic, version, checksums, fields
use Rattle.std.specs.Prelude.{◌≡◌, ◌≤◌, ◌<◌, ℕ, ◌+◌, ◌-◌, ◌%◌, List, [], ◌∷◌, ◌++◌, take, drop, max, replicate}
use Rattle.byteorder.specs.Endian.{big_number, big_bytes}
use Rattle.vc_layout.specs.Layout.{IsSectorSize}
use Rattle.vc_layout.specs.declared.slots.Slot.{Slot}
use Rattle.vc_layout.specs.declared.slots.Slot.TheVariants.{Standard, Hidden, BackupStandard, BackupHidden}
use Rattle.vc_header.specs.declared.fields.Fields.{Fields}
use Rattle.vc_header.specs.Crc.{crc}

abbrev pub salt_of : List ℕ → List ℕ
salt_of header = take 64 header

abbrev pub enciphered_body : List ℕ → List ℕ
enciphered_body header = drop 64 header

abbrev pub keys_field : List ℕ → List ℕ
keys_field header = drop 256 header

-- ---- what is read

abbrev pub field : ℕ → ℕ → List ℕ → ℕ
field at n body = big_number n (drop (at - 64) body)

abbrev pub fields_of : List ℕ → Fields
fields_of body = record {
  hidden_size = field 92 8 body;
  volume_size = field 100 8 body;
  start = field 108 8 body;
  encrypted = field 116 8 body;
  flags = field 124 4 body;
  sector = field 128 4 body;
  material = take 192 (drop 192 body);
}

-- ---- what is written

-- bytes 256 to 511: the master keys, then zeros
abbrev pub keys_part : Fields → List ℕ
keys_part f = f.material ++ replicate 64 0

-- bytes 64 to 251
unfoldable pub fields_part : Fields → List ℕ
fields_part f =
    (0x56 ∷ 0x45 ∷ 0x52 ∷ 0x41 ∷ [])  -- VERA
    ++ big_bytes 2 5  -- header version
    ++ big_bytes 2 0x10b  -- minimum program version
    ++ big_bytes 4 (crc (keys_part f))
    ++ replicate 16 0
    ++ big_bytes 8 f.hidden_size
    ++ big_bytes 8 f.volume_size
    ++ big_bytes 8 f.start
    ++ big_bytes 8 f.encrypted
    ++ big_bytes 4 f.flags
    ++ big_bytes 4 f.sector
    ++ replicate 120 0

unfoldable pub body_of : Fields → List ℕ
body_of f = fields_part f ++ big_bytes 4 (crc (fields_part f)) ++ keys_part f

-- ---- what is valid

-- a standard header has no hidden volume's size, a hidden one has it
abbrev pub FitsSlot : Slot → ℕ → Type 0
FitsSlot Standard hidden_size = hidden_size ≡ 0
FitsSlot Hidden hidden_size = 0 < hidden_size
FitsSlot BackupStandard hidden_size = hidden_size ≡ 0
FitsSlot BackupHidden hidden_size = 0 < hidden_size

pub record Meets (f : Fields) (slot : Slot) (len : ℕ) : Type 0 where
  pub no_system : f.flags % 4 ≡ 0  -- bit 0: system encryption, bit 1: encrypted in place
  pub sector : IsSectorSize f.sector
  pub start_whole : f.start % f.sector ≡ 0
  pub size_whole : f.volume_size % f.sector ≡ 0
  pub not_empty : f.sector ≤ f.volume_size
  pub behind_headers : 131072 ≤ f.start
  pub encrypted : f.volume_size ≤ f.encrypted
  pub before_backups : f.start + max f.volume_size f.hidden_size + 131072 ≤ len
  pub fits_slot : FitsSlot slot f.hidden_size

pub record Valid (body : List ℕ) (slot : Slot) (len : ℕ) : Type 0 where
  pub magic : field 64 4 body ≡ 0x56455241
  pub version : field 68 2 body ≡ 5
  pub keys_checksum : field 72 4 body ≡ crc (drop 192 body)
  pub fields_checksum : field 252 4 body ≡ crc (take 188 body)
  pub fields : Meets (fields_of body) slot len
