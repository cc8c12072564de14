-- A container with headers written anew. Fields and algorithm are those of the header that was opened, so the
-- volume, its keys and its sectors stay what they are.
--
-- new_sealing p pim prf from     what new headers are sealed under
-- changed g k from image         the image after a change of the password, from the random stream of g: its
--                                first 64 bytes are the primary header's salt, the next 64 the backup's
-- restored g k from image        the image with the primary header alone written anew
-- HasPrimary slot k f image      the pair's primary header carries the fields f under the sealing k, is valid,
--                                and opens unless a candidate before it is valid by chance
-- HasPair slot k f image         all this, and the backup carries the same fields and is valid
use Rattle.std.specs.Prelude.{ℕ, List}
use Rattle.kdf_hmac.specs.declared.prf.Prf.{Prf}
use Rattle.rand_chacha.specs.ChaCha.{ChaCha}
use Rattle.vc_layout.specs.declared.slots.Slot.{Slot}
use Rattle.vc_header.specs.declared.fields.Fields.{Fields}
use Rattle.header_seal.specs.declared.opened.Opened.{Opened}
use Rattle.volume_format.specs.Formatted.{Sealing}
use Rattle.volume_format.specs.Hidden.{with_header}
use Rattle.volume_format.specs.Opens.{HasBothHeaders, HasHeader, HasValid, Opens}
use Rattle.volume_format.specs.Stream.{stream_bytes}
use Rattle.header_change.specs.Pair.{backup_of, kind_of, primary_of}

abbrev pub new_sealing : List ℕ → ℕ → Prf → Opened → Sealing
new_sealing password pim prf from = record { password = password; pim = pim; prf = prf; algorithm = from.algorithm }

abbrev pub restored : ChaCha → Sealing → Opened → List ℕ → List ℕ
restored g k from image = with_header k (stream_bytes g 0 64) from.fields (primary_of from.slot) image

abbrev pub changed : ChaCha → Sealing → Opened → List ℕ → List ℕ
changed g k from image =
    with_header k (stream_bytes g 64 64) from.fields (backup_of from.slot) (restored g k from image)

pub record HasPrimary (slot : Slot) (k : Sealing) (f : Fields) (image : List ℕ) : Type 0 where
  pub header : HasHeader image (primary_of slot) k f
  pub valid : HasValid image (primary_of slot) k
  pub opens : Opens (kind_of slot) (primary_of slot) k f image

abbrev pub HasPair : Slot → Sealing → Fields → List ℕ → Type 0
HasPair slot k f image = HasBothHeaders (kind_of slot) (primary_of slot) (backup_of slot) k f image
