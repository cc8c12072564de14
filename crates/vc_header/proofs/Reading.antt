-- Fields that are read from a body, and the rules of a valid body as a test.
--
-- A number that is read from n bytes alone is the one at their place. Each rule is decided by its test, and
-- so are all of them together.
use Rattle.std.proofs.Common.{◌≡◌, ◌≤◌, ℕ, ◌+◌, ◌%◌, ◌==◌, nat_eq, nat_le, ◌&&◌, ◌||◌, Bool, IsTrue, Decides, List, take, drop, sym, ◌∙◌, arith, max}
use Rattle.std.proofs.lemmas.Bool.Decides.{nat_tests, Decides-eqb, Decides-ltb, Decides-and, Decides-or}
use Rattle.byteorder.specs.Endian.{big_number}
use Rattle.byteorder.specs.Numbers.{big_from-take}
use Rattle.vc_layout.specs.Layout.{IsSectorSize}
use Rattle.vc_layout.specs.declared.slots.Slot.{Slot}
use Rattle.vc_layout.specs.declared.slots.Slot.TheVariants.{Standard, Hidden, BackupStandard, BackupHidden}
use Rattle.vc_header.specs.declared.fields.Fields.{Fields}
use Rattle.vc_header.specs.Crc.{crc}
use Rattle.vc_header.specs.Header.{field, fields_of, FitsSlot, Meets, Valid}
use Rattle.vc_header.specs.Laws.Tests.{is_sector_size, has_slot_size, meets, is_valid}

-- ---- what is read

-- a number reads no byte past its own
pub read_front : (n m : ℕ) (xs : List ℕ) → n ≤ m → big_number n (take m xs) ≡ big_number n xs
read_front n m xs within = big_from-take 0 n m xs (omega arith)

-- two numbers that were read are equal exactly where what they stand for is, after two others were
pub both_checked : (r c s d p q x y : ℕ) → r ≡ c → r ≡ p → c ≡ q → s ≡ x → d ≡ y
    → (IsTrue (nat_eq s d) → (x ≡ y) × (p ≡ q)) × ((x ≡ y) × (p ≡ q) → IsTrue (nat_eq s d))
both_checked r c s d p q x y same r_is c_is s_is d_is = (
  λ e. (sym s_is ∙ (Decides-eqb s d).0 e ∙ d_is, sym r_is ∙ same ∙ c_is),
  λ h. (Decides-eqb s d).1 (s_is ∙ h.0 ∙ sym d_is),
)

-- ---- the rules

Decides-le : (a b : ℕ) → Decides (nat_le a b) (a ≤ b)
Decides-le a b = (λ e. grind (arith, nat_tests), λ h. grind (arith, nat_tests))

slot_size_decided : (slot : Slot) (size : ℕ) → Decides (has_slot_size slot size) (FitsSlot slot size)
slot_size_decided Standard size = Decides-eqb size 0
slot_size_decided Hidden size = Decides-ltb 0 size
slot_size_decided BackupStandard size = Decides-eqb size 0
slot_size_decided BackupHidden size = Decides-ltb 0 size

sector_size_decided : (s : ℕ) → Decides (is_sector_size s) (IsSectorSize s)
sector_size_decided s =
    let third = Decides-or (s == 2048) (s == 4096) (Decides-eqb s 2048) (Decides-eqb s 4096) in
    let second = Decides-or (s == 1024) (s == 2048 || s == 4096) (Decides-eqb s 1024) third in
    Decides-or (s == 512) (s == 1024 || (s == 2048 || s == 4096)) (Decides-eqb s 512) second

-- each rule is tested after those before it
meets_decided : (f : Fields) (slot : Slot) (len : ℕ) → Decides (meets f slot len) (Meets f slot len)
meets_decided f slot len =
    let last : ℕ = f.start + max f.volume_size f.hidden_size + 131072 in
    let to_system : Bool = f.flags % 4 == 0 in
    let to_sector : Bool = to_system && is_sector_size f.sector in
    let to_start : Bool = to_sector && f.start % f.sector == 0 in
    let to_size : Bool = to_start && f.volume_size % f.sector == 0 in
    let to_empty : Bool = to_size && nat_le f.sector f.volume_size in
    let to_headers : Bool = to_empty && nat_le 131072 f.start in
    let to_encrypted : Bool = to_headers && nat_le f.volume_size f.encrypted in
    let to_backups : Bool = to_encrypted && nat_le last len in
    let system = Decides-eqb (f.flags % 4) 0 in
    let sector = Decides-and to_system (is_sector_size f.sector) system (sector_size_decided f.sector) in
    let start = Decides-and to_sector (f.start % f.sector == 0) sector (Decides-eqb (f.start % f.sector) 0) in
    let size = Decides-and to_start (f.volume_size % f.sector == 0) start (Decides-eqb (f.volume_size % f.sector) 0) in
    let empty = Decides-and to_size (nat_le f.sector f.volume_size) size (Decides-le f.sector f.volume_size) in
    let headers = Decides-and to_empty (nat_le 131072 f.start) empty (Decides-le 131072 f.start) in
    let encrypted = Decides-and to_headers (nat_le f.volume_size f.encrypted) headers (Decides-le f.volume_size f.encrypted) in
    let backups = Decides-and to_encrypted (nat_le last len) encrypted (Decides-le last len) in
    let all = Decides-and to_backups (has_slot_size slot f.hidden_size) backups (slot_size_decided slot f.hidden_size) in (
      λ e. let h = all.0 e in record {
        no_system = h.0.0.0.0.0.0.0.0;
        sector = h.0.0.0.0.0.0.0.1;
        start_whole = h.0.0.0.0.0.0.1;
        size_whole = h.0.0.0.0.0.1;
        not_empty = h.0.0.0.0.1;
        behind_headers = h.0.0.0.1;
        encrypted = h.0.0.1;
        before_backups = h.0.1;
        fits_slot = h.1;
      },
      λ m.
          all.1 (
            (
              (
                (
                  ((((m.no_system, m.sector), m.start_whole), m.size_whole), m.not_empty),
                  m.behind_headers,
                ),
                m.encrypted,
              ),
              m.before_backups,
            ),
            m.fits_slot,
          ),
    )

pub validity_decided : (body : List ℕ) (slot : Slot) (len : ℕ)
    → (IsTrue (is_valid body slot len) → Valid body slot len)
    × (Valid body slot len → IsTrue (is_valid body slot len))
unfolding is_valid
validity_decided body slot len =
    let keys_sum : ℕ = crc (drop 192 body) in
    let fields_sum : ℕ = crc (take 188 body) in
    let to_magic : Bool = field 64 4 body == 0x56455241 in
    let to_version : Bool = to_magic && field 68 2 body == 5 in
    let to_keys : Bool = to_version && field 72 4 body == keys_sum in
    let to_sums : Bool = to_keys && field 252 4 body == fields_sum in
    let magic = Decides-eqb (field 64 4 body) 0x56455241 in
    let version = Decides-and to_magic (field 68 2 body == 5) magic (Decides-eqb (field 68 2 body) 5) in
    let keys = Decides-and to_version (field 72 4 body == keys_sum) version (Decides-eqb (field 72 4 body) keys_sum) in
    let sums = Decides-and to_keys (field 252 4 body == fields_sum) keys (Decides-eqb (field 252 4 body) fields_sum) in
    let all = Decides-and to_sums (meets (fields_of body) slot len) sums (meets_decided (fields_of body) slot len) in (
      λ e. let h = all.0 e in record {
        magic = h.0.0.0.0;
        version = h.0.0.0.1;
        keys_checksum = h.0.0.1;
        fields_checksum = h.0.1;
        fields = h.1;
      },
      λ v. all.1 ((((v.magic, v.version), v.keys_checksum), v.fields_checksum), v.fields),
    )
