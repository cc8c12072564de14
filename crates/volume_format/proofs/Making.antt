-- Formatting: from what each step made of the image to what the image is in the end.
use Rattle.std.proofs.Common.{◌≡◌, ℕ, ◌+◌, ◌-◌, ◌≤◌, List, [], ◌∷◌, ◌++◌, length, replicate, Option, Some, None, true, refl, sym, ap, ap₂, ◌∙◌, subst, arith}
use Rattle.vc_base.specs.Faults.{HasCause, Rose}
use Rattle.rand_chacha.specs.ChaCha.{ChaCha}
use Rattle.vc_outside.specs.Told.{Both, resized, written}
use Rattle.vc_layout.specs.Layout.{IsFormattable}
use Rattle.vc_layout.specs.Laws.Sectors.{at_least_a_unit, group_whole, groups_whole, whole_without}
use Rattle.vc_layout.specs.Kinds.{slots_of}
use Rattle.vc_layout.specs.declared.kind.Kind.{Kind}
use Rattle.vc_layout.specs.declared.kind.Kind.TheVariants.{StandardOnly}
use Rattle.vc_layout.specs.declared.slots.Slot.{Slot}
use Rattle.vc_layout.specs.declared.slots.Slot.TheVariants.{Standard, BackupStandard}
use Rattle.vc_header.specs.Header.{body_of, fields_of, Meets, Valid}
use Rattle.vc_header.specs.Laws.Tests.{is_valid}
use Rattle.vc_header.specs.declared.fields.Fields.{Fields}
use Rattle.header_seal.specs.Sealed.{header_at, HeadersOpenAgain, plain_by}
use Rattle.volume_format.specs.Stream.{advanced, stream_bytes}
use Rattle.volume_format.specs.Formatted.{body_under, key_bytes, material_of, outer_fields, Sealing, sealing_of}
use Rattle.volume_format.specs.Opens.{HasBothHeaders, HasHeader, HasValid}
use Rattle.volume_format.specs.Laws.Made.{fields_from, IsFormatted}
use Rattle.volume_format.specs.declared.outer.FormatSpec.{FormatSpec}
use Rattle.volume_format.proofs.Draws.{stream_advanced}
use Rattle.volume_format.proofs.Images.{backup_body, backup_carries, body, carries, formatted_is, has_units, HasUnits, IsReadable, length-both, with_both, with_one}
use Rattle.volume_format.proofs.Opening.{opens}

-- ---- fields

pub meets : (spec : FormatSpec) (material : List ℕ) → IsFormattable spec.size spec.sector
    → Meets (outer_fields spec material) Standard spec.size
meets spec material fits =
    let unit : 512 ≤ spec.sector = at_least_a_unit spec.sector fits.sector in
    record {
      no_system = refl;
      sector = fits.sector;
      start_whole = group_whole spec.sector fits.sector;
      size_whole = whole_without spec.sector spec.size 262144 fits.sector fits.whole
          (groups_whole spec.sector fits.sector);
      not_empty = omega (arith, fits.shortest);
      behind_headers = omega arith;
      encrypted = omega arith;
      before_backups = omega (arith, unit, fits.shortest);
      fits_slot = refl;
    }

pub meets_backup : (spec : FormatSpec) (material : List ℕ) → IsFormattable spec.size spec.sector
    → Meets (outer_fields spec material) BackupStandard spec.size
meets_backup spec material fits = let m : Meets (outer_fields spec material) Standard spec.size
    = meets spec material fits in record {
      no_system = m.no_system;
      sector = m.sector;
      start_whole = m.start_whole;
      size_whole = m.size_whole;
      not_empty = m.not_empty;
      behind_headers = m.behind_headers;
      encrypted = m.encrypted;
      before_backups = m.before_backups;
      fits_slot = refl;
    }

-- the master keys that are drawn after the fill
pub fields_are : (g h : ChaCha) (spec : FormatSpec) (m : List ℕ) (f : Fields)
    → h ≡ advanced g spec.size → m ≡ material_of h 0 spec.algorithm
    → f ≡ outer_fields spec m → f ≡ fields_from g spec
fields_are g h spec m f moved material fields =
    let n : ℕ = key_bytes spec.algorithm in
    fields ∙ ap (outer_fields spec) (material
    ∙ ap (λ (xs : List ℕ). xs ++ replicate (192 - n) 0)
    (ap (λ (k : ChaCha). stream_bytes k 0 n) moved ∙ stream_advanced g spec.size n))

-- ---- the image

-- a valid body passes the test
abbrev pub IsDecided : Type 0
IsDecided = (body : List ℕ) (slot : Slot) (len : ℕ)
    → (is_valid body slot len ≡ true → Valid body slot len) × (Valid body slot len → is_valid body slot len ≡ true)

-- two slots that carry the fields open the volume
pub both_headers : IsDecided → (kind : Kind) (slot backup : Slot) (k : Sealing) (f : Fields) (image : List ℕ) (len : ℕ)
    → slots_of kind ≡ slot ∷ [] → len ≡ length image
    → HasHeader image slot k f → HasHeader image backup k f
    → Valid (body_of f) slot len → Valid (body_of f) backup len → fields_of (body_of f) ≡ f
    → HasBothHeaders kind slot backup k f image
both_headers decided kind slot backup k f image len one long carried backup_carried valid backup_valid again = record {
  header = carried;
  valid = valid_in slot carried valid;
  opens = opens kind slot k f image one
      (ap₂ (λ (b : List ℕ) (n : ℕ). is_valid b slot n) carried (sym long)
      ∙ (decided (body_of f) slot len).1 valid)
      (ap fields_of carried ∙ again);
  backup_header = backup_carried;
  backup_valid = valid_in backup backup_carried backup_valid;
}
  where
    valid_in : (s : Slot) → HasHeader image s k f → Valid (body_of f) s len → HasValid image s k
    valid_in s carried valid =
        let plain : List ℕ = plain_by k.prf k.algorithm k.password k.pim (header_at s image) in
        subst (λ (n : ℕ). Valid plain s n) long (subst (λ (b : List ℕ). Valid b s len) (sym carried) valid)

-- with both headers it is all that is said of it
pub image_is : HeadersOpenAgain → IsDecided → (g : ChaCha) (spec : FormatSpec) (f : Fields)
    (fits : IsFormattable spec.size spec.sector) → f ≡ fields_from g spec
    → IsReadable (sealing_of spec) (stream_bytes g 0 64) f
    → IsReadable (sealing_of spec) (stream_bytes g (spec.size - 131072) 64) f
    → IsFormatted g spec (with_both g spec f (has_units spec.size spec.sector fits))
image_is law decided g spec f fits fields r q =
    let units : HasUnits spec.size = has_units spec.size spec.sector fits in
    let image : List ℕ = with_both g spec f units in
    let m : Meets f Standard spec.size = subst (λ (f : Fields). Meets f Standard spec.size)
    (sym fields) (meets spec (material_of g spec.size spec.algorithm) fits) in
    let m' : Meets f BackupStandard spec.size
    = subst (λ (f : Fields). Meets f BackupStandard spec.size) (sym fields)
    (meets_backup spec (material_of g spec.size spec.algorithm) fits) in
    record {
      is = formatted_is g spec f units fields r.as_long;
      headers = subst (λ (f : Fields). HasBothHeaders StandardOnly Standard BackupStandard (sealing_of spec) f image) fields
          (both_headers decided StandardOnly Standard BackupStandard (sealing_of spec) f image spec.size refl
          (sym (length-both g spec f units r.as_long q.as_long))
          (carries g spec f units law r q) (backup_carries g spec f units law r q)
          (r.valid Standard spec.size m) (r.valid BackupStandard spec.size m') r.again);
    }

-- the fill from an equal generator
pub filled_from : (old new : Option (List ℕ)) (h g : ChaCha) (size : ℕ) → h ≡ g
    → Both old new (λ _ b. b ≡ stream_bytes h 0 size)
    → Both old new (λ _ b. b ≡ stream_bytes g 0 size)
filled_from old new h g size same filled =
    subst (λ (s : ChaCha). Both old new (λ _ b. b ≡ stream_bytes s 0 size)) same filled

-- a step that writes a header's body at a place
abbrev WritesBody : ℕ → FormatSpec → List ℕ → Fields → Option (List ℕ) → Option (List ℕ) → Type 0
WritesBody at spec salt f old new = Both old new (λ b c. c ≡ written at (body_under (sealing_of spec) salt f) b)

-- step by step, if the store's contents are known
pub made : HeadersOpenAgain → IsDecided → (i₀ i₁ i₂ i₃ : Option (List ℕ)) (g : ChaCha) (spec : FormatSpec) (f : Fields)
    (fits : IsFormattable spec.size spec.sector) (s s' : List ℕ)
    → s ≡ stream_bytes g 0 64 → s' ≡ stream_bytes g (spec.size - 131072) 64
    → f ≡ fields_from g spec → IsReadable (sealing_of spec) s f → IsReadable (sealing_of spec) s' f
    → Both i₀ i₁ (λ _ b. b ≡ stream_bytes g 0 spec.size)
    → WritesBody 64 spec s f i₁ i₂ → WritesBody (spec.size - 131072 + 64) spec s' f i₂ i₃
    → Both i₀ i₃ (λ _ b. IsFormatted g spec b)
made law decided i₀ i₁ i₂ i₃ g spec f fits s s' salt salt' fields r q filled one both =
    in_turn i₀ i₁ i₂ i₃ filled
    (subst (λ (x : List ℕ). WritesBody 64 spec x f i₁ i₂) salt one)
    (subst (λ (x : List ℕ). WritesBody (spec.size - 131072 + 64) spec x f i₂ i₃) salt' both)
  where
    units : HasUnits spec.size
    units = has_units spec.size spec.sector fits

    whole : IsFormatted g spec (with_both g spec f units)
    whole =
        image_is law decided g spec f fits fields
        (subst (λ (x : List ℕ). IsReadable (sealing_of spec) x f) salt r)
        (subst (λ (x : List ℕ). IsReadable (sealing_of spec) x f) salt' q)

    in_turn : (a b c d : Option (List ℕ)) → Both a b (λ _ x. x ≡ stream_bytes g 0 spec.size)
        → WritesBody 64 spec (stream_bytes g 0 64) f b c
        → WritesBody (spec.size - 131072 + 64) spec (stream_bytes g (spec.size - 131072) 64) f c d
        → Both a d (λ _ x. IsFormatted g spec x)
    in_turn None b c d filled one both = tt
    in_turn (Some a) None c d filled one both = absurd filled
    in_turn (Some a) (Some b) None d filled one both = absurd one
    in_turn (Some a) (Some b) (Some c) None filled one both = absurd both
    in_turn (Some a) (Some b) (Some c) (Some d) filled one both =
        let first_is : c ≡ with_one g spec f units
        = one ∙ ap (λ (x : List ℕ). written 64 (body g spec f units) x) filled in
        subst (IsFormatted g spec) (sym (both
        ∙ ap (λ (x : List ℕ). written (spec.size - 131072 + 64)
        (backup_body g spec f units) x) first_is)) whole

-- after the container got its length
pub headers_of : (old whole new : Option (List ℕ)) (g : ChaCha) (spec : FormatSpec)
    → Both old whole (λ b c. c ≡ resized spec.size b) → Both whole new (λ _ b. IsFormatted g spec b)
    → Both old new (λ _ b. HasBothHeaders StandardOnly Standard BackupStandard (sealing_of spec) (fields_from g spec) b)
headers_of None whole new g spec long made = tt
headers_of (Some a) None new g spec long made = absurd long
headers_of (Some a) (Some b) None g spec long made = absurd made
headers_of (Some a) (Some b) (Some c) g spec long made = made.headers

-- ---- faults

-- a fault of a later step is a fault of all
pub cause_after : (begin middle end : ℕ) (failed failed' : Type 0) → begin ≤ middle
    → HasCause middle end failed → (failed' → failed)
    → HasCause begin end failed'
cause_after begin middle end failed failed' before cause is = record {
  later = omega (arith, before, cause.later);
  rose = λ f. let h : Rose middle end = cause.rose (is f) in omega (arith, before, h);
}
