-- A formatted container with an outer volume. docs/FORMAT.md, "Formatting", has the picture.
--
-- The image is random bytes, except for the bodies of the standard header and of its backup. Each header's salt
-- is the random bytes in its slot, and the master keys are the random bytes after the image.
--
-- Sealing                      what a header is sealed under
-- material_of g at algorithm   the master keys that are drawn from byte `at` of the random stream of g on
-- outer_fields spec material   the fields of both headers
-- formatted g spec             the image that formatting makes, from the random stream of g
use Rattle.std.specs.Prelude.{ℕ, ◌+◌, ◌-◌, ◌*◌, List, ◌++◌, length, replicate}
use Rattle.algorithm_names.specs.declared.algorithm.Algorithm.{Algorithm}
use Rattle.algorithm_names.specs.Algorithms.{ciphers_of}
use Rattle.kdf_hmac.specs.declared.prf.Prf.{Prf}
use Rattle.vc_layout.specs.Layout.{place_of}
use Rattle.vc_layout.specs.declared.slots.Slot.{Slot}
use Rattle.vc_layout.specs.declared.slots.Slot.TheVariants.{Standard, BackupStandard}
use Rattle.vc_header.specs.Header.{salt_of}
use Rattle.vc_header.specs.declared.fields.Fields.{Fields}
use Rattle.vc_outside.specs.Told.{written}
use Rattle.header_seal.specs.Sealed.{header_at, sealed_by}
use Rattle.rand_chacha.specs.ChaCha.{ChaCha}
use Rattle.volume_format.specs.Stream.{stream_bytes}
use Rattle.volume_format.specs.declared.outer.FormatSpec.{FormatSpec}

pub record Sealing : Type 0 where
  pub password : List ℕ
  pub pim : ℕ
  pub prf : Prf
  pub algorithm : Algorithm

abbrev pub sealing_of : FormatSpec → Sealing
sealing_of spec = record { password = spec.password; pim = spec.pim; prf = spec.prf; algorithm = spec.algorithm }

-- the body of a header with this salt, enciphered
abbrev pub body_under : Sealing → List ℕ → Fields → List ℕ
body_under k salt fields = sealed_by k.prf k.algorithm k.password k.pim salt fields

-- the count of bytes that the keys of an algorithm take: two keys of 32 bytes for each cipher
abbrev pub key_bytes : Algorithm → ℕ
key_bytes algorithm = 64 * length (ciphers_of algorithm)

-- in the 192 bytes that a header has for them
abbrev pub material_of : ChaCha → ℕ → Algorithm → List ℕ
material_of g at algorithm = stream_bytes g at (key_bytes algorithm) ++ replicate (192 - key_bytes algorithm) 0

abbrev pub outer_fields : FormatSpec → List ℕ → Fields
outer_fields spec material = record {
  hidden_size = 0;
  volume_size = spec.size - 262144;
  start = 131072;
  encrypted = spec.size - 262144;
  flags = 0;
  sector = spec.sector;
  material = material;
}

-- the image with the body of a slot's header written behind its salt
abbrev pub with_body : Sealing → Fields → Slot → List ℕ → List ℕ
with_body k fields slot image =
    written (place_of slot (length image) + 64) (body_under k (salt_of (header_at slot image)) fields) image

unfoldable pub formatted : ChaCha → FormatSpec → List ℕ
formatted g spec =
    let fields = outer_fields spec (material_of g spec.size spec.algorithm) in
    with_body (sealing_of spec) fields BackupStandard
    (with_body (sealing_of spec) fields Standard (stream_bytes g 0 spec.size))
