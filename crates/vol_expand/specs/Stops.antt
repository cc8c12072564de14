-- What a crash in the middle of the call may leave, and what then opens.
--
-- PartsStay from until old new     each part of the old image from byte `from` up to byte `until` stays
-- Grows until size old new         the step of the call up to its first sync: the first `until` bytes stay, and the
--                                  length is the old one or `size`
-- Carries slot k f image           the slot carries the fields f, under the sealing k
-- IsRead slot k f image            the slot's header is valid under the sealing, and reads as the fields f
-- IsOpened slot k f image          the same, and the image has a container's length: the sealing opens the slot
-- HasNewBackup k f size image      the image has `size` bytes, and the backup carries the fields f and is valid
-- Expands until size k f old new   the step of the whole call: as Grows, but for the standard header, which stays
--                                  or else the new backup is there
-- volume_of f image                the bytes of the volume that fields describe
-- array_of a f image               the array of this volume: all its sectors, deciphered by the algorithm a under the
--                                  master keys of f
-- Holds P slot k f content image   P holds of the slot, and the volume begins with the bytes `content`
-- ArrayBegins a f g old new        the array of the fields g in the image `new` begins with that of f in `old`
-- Keeps P slot k f g old new       P holds of the slot in the image `new`, with the fields g; and the volume that these
--                                  describe there begins with that of f in the image `old`, as bytes and as an array
-- OldOrNew .. P k f size           if the old header is there in each outcome at the start of the call, under any
--                                  sealing and with the volume's bytes of the image, then in each outcome at any
--                                  moment of it the old header or the new backup is there, with a volume that begins
--                                  with that of the image, as bytes and as an array
use Rattle.std.specs.Prelude.{◌≡◌, ◌≤◌, ◌⊎◌, ℕ, ◌+◌, ◌/◌, Bool, true, List, length, take, drop, Option, IfSome}
use Rattle.algorithm_names.specs.declared.algorithm.Algorithm.{Algorithm}
use Rattle.cascade_set.specs.Volume.{plain_sectors}
use Rattle.vc_layout.specs.Layout.{IsContainerLength}
use Rattle.vc_layout.specs.declared.slots.Slot.{Slot}
use Rattle.vc_layout.specs.declared.slots.Slot.TheVariants.{Standard, BackupStandard}
use Rattle.vc_header.specs.declared.fields.Fields.{Fields}
use Rattle.header_seal.specs.Candidates.{fields_in}
use Rattle.volume_format.specs.Formatted.{Sealing}
use Rattle.volume_format.specs.Opens.{asked, HasHeader, HasValid}
use Rattle.vol_expand.specs.Expanded.{expanded_fields}

abbrev pub PartsStay : ℕ → ℕ → List ℕ → List ℕ → Type 0
PartsStay from until old new = (at n : ℕ) → from ≤ at → at + n ≤ until → at + n ≤ length old
    → take n (drop at new) ≡ take n (drop at old)

pub record Grows (until size : ℕ) (old new : List ℕ) : Type 0 where
  pub as_long : (length new ≡ length old) ⊎ (length new ≡ size)
  pub parts : PartsStay 0 until old new

abbrev pub Carries : Slot → Sealing → Fields → List ℕ → Type 0
Carries slot k f image = HasHeader image slot k f

pub record IsRead (slot : Slot) (k : Sealing) (f : Fields) (image : List ℕ) : Type 0 where
  pub valid : HasValid image slot k
  pub fields : fields_in (asked slot k) image k.password k.pim ≡ f

pub record IsOpened (slot : Slot) (k : Sealing) (f : Fields) (image : List ℕ) : Type 0 where
  pub long : IsContainerLength (length image)
  pub read : IsRead slot k f image

pub record HasNewBackup (k : Sealing) (f : Fields) (size : ℕ) (image : List ℕ) : Type 0 where
  pub as_long : length image ≡ size
  pub carried : Carries BackupStandard k f image
  pub read : IsRead BackupStandard k f image

pub record Expands (until size : ℕ) (k : Sealing) (f : Fields) (old new : List ℕ) : Type 0 where
  pub as_long : (length new ≡ length old) ⊎ (length new ≡ size)
  pub parts : PartsStay 512 until old new
  pub either : PartsStay 0 512 old new ⊎ HasNewBackup k f size new

abbrev pub volume_of : Fields → List ℕ → List ℕ
volume_of f image = take f.volume_size (drop f.start image)

abbrev pub array_of : Algorithm → Fields → List ℕ → List ℕ
array_of a f image =
    plain_sectors (record { algorithm = a; material = f.material }) f.start (f.sector / 512) image 0
    (f.volume_size / f.sector)

pub record Holds (P : Slot → Sealing → Fields → List ℕ → Type 0) (slot : Slot) (k : Sealing) (f : Fields)
    (content image : List ℕ) : Type 0 where
  pub header : P slot k f image
  pub begins : take (length content) (volume_of f image) ≡ content

abbrev pub ArrayBegins : Algorithm → Fields → Fields → List ℕ → List ℕ → Type 0
ArrayBegins a f g old new = take (length (array_of a f old)) (array_of a g new) ≡ array_of a f old

-- Both arrays are by the algorithm of the slot's header.
pub record Keeps (P : Slot → Sealing → Fields → List ℕ → Type 0) (slot : Slot) (k : Sealing) (f g : Fields)
    (old new : List ℕ) : Type 0 where
  pub holds : Holds P slot k g (volume_of f old) new
  pub array : ArrayBegins k.algorithm f g old new

-- `could` are the outcomes at the start of the call, and `left` those at any moment since. A store that models its
-- outcomes knows its image. The new headers are under the sealing k, in a container of `size` bytes.
abbrev pub OldOrNew : Bool → Option (List ℕ) → (List ℕ → Type 0) → (List ℕ → Type 0)
    → (Slot → Sealing → Fields → List ℕ → Type 0) → Sealing → Fields → ℕ → Type 0
OldOrNew tells image could left P k f size = tells ≡ true → IfSome image (λ b. (old : Sealing)
    → ((d : List ℕ) → could d → Holds P Standard old f (volume_of f b) d)
    → (c : List ℕ) → left c
    → Keeps P Standard old f f b c ⊎ Keeps P BackupStandard k f (expanded_fields size f) b c)
