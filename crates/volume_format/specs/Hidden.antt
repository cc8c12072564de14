-- A container with a new hidden volume. docs/FORMAT.md, "Formatting", has the picture.
--
-- Only the slots of the hidden header and of its backup change. The random stream gives the master keys, the salt of
-- the hidden header and that of its backup, in this order.
--
-- hidden_fields len spec material   the fields of both headers, in a container of len bytes
-- with_header k salt f slot image   the image with a whole header in a slot
-- formatted_hidden g spec image     the image with the hidden volume, from the random stream of g
-- OnlyHiddenSlots old new           only bytes of the two slots may differ
use Rattle.std.specs.Prelude.{ℕ, ◌+◌, ◌-◌, List, ◌++◌, length}
use Rattle.vc_layout.specs.Layout.{place_of}
use Rattle.vc_layout.specs.declared.slots.Slot.{Slot}
use Rattle.vc_layout.specs.declared.slots.Slot.TheVariants.{Hidden, BackupHidden}
use Rattle.vc_header.specs.declared.fields.Fields.{Fields}
use Rattle.vc_outside.specs.Told.{SameOutside, written}
use Rattle.rand_chacha.specs.ChaCha.{ChaCha}
use Rattle.volume_format.specs.Stream.{stream_bytes}
use Rattle.volume_format.specs.Formatted.{body_under, key_bytes, material_of, Sealing}
use Rattle.volume_format.specs.declared.hidden.HiddenSpec.{HiddenSpec}

abbrev pub hidden_sealing_of : HiddenSpec → Sealing
hidden_sealing_of spec = record { password = spec.password; pim = spec.pim; prf = spec.prf; algorithm = spec.algorithm }

abbrev pub hidden_fields : ℕ → HiddenSpec → List ℕ → Fields
hidden_fields len spec material = record {
  hidden_size = spec.size;
  volume_size = spec.size;
  start = len - 131072 - spec.size;
  encrypted = spec.size;
  flags = 0;
  sector = spec.sector;
  material = material;
}

abbrev pub header_under : Sealing → List ℕ → Fields → List ℕ
header_under k salt fields = salt ++ body_under k salt fields

abbrev pub with_header : Sealing → List ℕ → Fields → Slot → List ℕ → List ℕ
with_header k salt fields slot image = written (place_of slot (length image)) (header_under k salt fields) image

unfoldable pub formatted_hidden : ChaCha → HiddenSpec → List ℕ → List ℕ
formatted_hidden g spec image =
    let keys = key_bytes spec.algorithm in
    let fields = hidden_fields (length image) spec (material_of g 0 spec.algorithm) in
    with_header (hidden_sealing_of spec) (stream_bytes g (keys + 64) 64) fields BackupHidden
    (with_header (hidden_sealing_of spec) (stream_bytes g keys 64) fields Hidden image)

-- by way of an image that differs in the first slot alone
pub record OnlyHiddenSlots (old new : List ℕ) : Type 0 where
  pub between : List ℕ
  pub hidden : SameOutside (place_of Hidden (length old)) 512 old between
  pub backup : SameOutside (place_of BackupHidden (length old)) 512 between new
