-- All that is said of an image that formatting makes, from the stream of g. Only private contracts cite this.
use Rattle.std.specs.Prelude.{◌≡◌, List, ℕ, length}
use Rattle.rand_chacha.specs.ChaCha.{ChaCha}
use Rattle.vc_layout.specs.declared.slots.Slot.TheVariants.{Standard, Hidden, BackupStandard, BackupHidden}
use Rattle.vc_layout.specs.declared.kind.Kind.TheVariants.{StandardOnly, HiddenOnly}
use Rattle.vc_header.specs.declared.fields.Fields.{Fields}
use Rattle.volume_format.specs.Formatted.{formatted, material_of, outer_fields, sealing_of}
use Rattle.volume_format.specs.Hidden.{formatted_hidden, hidden_fields, hidden_sealing_of}
use Rattle.volume_format.specs.Opens.{HasBothHeaders}
use Rattle.volume_format.specs.declared.outer.FormatSpec.{FormatSpec}
use Rattle.volume_format.specs.declared.hidden.HiddenSpec.{HiddenSpec}

abbrev pub fields_from : ChaCha → FormatSpec → Fields
fields_from g spec = outer_fields spec (material_of g spec.size spec.algorithm)

pub record IsFormatted (g : ChaCha) (spec : FormatSpec) (image : List ℕ) : Type 0 where
  pub is : image ≡ formatted g spec
  pub headers : HasBothHeaders StandardOnly Standard BackupStandard (sealing_of spec) (fields_from g spec) image

abbrev pub hidden_fields_from : ℕ → ChaCha → HiddenSpec → Fields
hidden_fields_from len g spec = hidden_fields len spec (material_of g 0 spec.algorithm)

-- `old` is the image before
pub record IsHidden (g : ChaCha) (spec : HiddenSpec) (old image : List ℕ) : Type 0 where
  pub is : image ≡ formatted_hidden g spec old
  pub headers : HasBothHeaders HiddenOnly Hidden BackupHidden (hidden_sealing_of spec)
      (hidden_fields_from (length old) g spec) image
