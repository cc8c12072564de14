-- The image with a hidden volume: a header in each of the two slots, one written after the other.
--
-- The slots are apart, so the second header leaves the first.
use Rattle.std.proofs.Common.{◌≡◌, ◌≤◌, ℕ, ◌+◌, ◌-◌, ◌%◌, List, length, take, drop, Option, Some, None, refl, sym, ap, ap₂, ◌∙◌, subst, arith, length-append}
use Rattle.std.specs.Prelude.{IfSome, OnErr, OnOk, Result, Ok, Err}
use Rattle.std.proofs.lemmas.List.{take_at}
use Rattle.rand_chacha.specs.ChaCha.{ChaCha}
use Rattle.algorithm_names.specs.declared.algorithm.Algorithm.{Algorithm}
use Rattle.vc_outside.specs.Told.{Both, SameOutside, written}
use Rattle.vc_outside.proofs.Writes.{outside-same, written-outside}
use Rattle.vc_layout.specs.Layout.{IsHideable, place_of}
use Rattle.vc_layout.specs.Laws.Sectors.{at_least_a_unit, at_least_one, group_whole, whole_without}
use Rattle.vc_layout.specs.declared.slots.Slot.{Slot}
use Rattle.vc_layout.specs.declared.slots.Slot.TheVariants.{Standard, Hidden, BackupStandard, BackupHidden}
use Rattle.vc_layout.specs.declared.kind.Kind.TheVariants.{HiddenOnly}
use Rattle.vc_header.specs.Header.{Meets}
use Rattle.vc_header.specs.declared.fields.Fields.{Fields}
use Rattle.header_seal.specs.Sealed.{header_at, HeadersOpenAgain}
use Rattle.volume_format.specs.Stream.{advanced, stream_bytes}
use Rattle.volume_format.specs.Formatted.{body_under, key_bytes, material_of}
use Rattle.volume_format.specs.Hidden.{formatted_hidden, header_under, hidden_fields, hidden_sealing_of, OnlyHiddenSlots}
use Rattle.volume_format.specs.Opens.{HasBothHeaders}
use Rattle.volume_format.specs.Laws.Made.{hidden_fields_from, IsHidden}
use Rattle.volume_format.specs.declared.hidden.HiddenSpec.{HiddenSpec}
use Rattle.volume_format.proofs.Draws.{advanced_twice, stream_advanced}
use Rattle.volume_format.proofs.Writes.{drop_from, length-written, part_before}
use Rattle.volume_format.proofs.Images.{IsReadable, read_again}
use Rattle.volume_format.proofs.Making.{both_headers, IsDecided}

-- ---- fields

pub meets_hidden : (len : ℕ) (spec : HiddenSpec) (material : List ℕ) → IsHideable len spec.size spec.sector
    → Meets (hidden_fields len spec material) Hidden len
meets_hidden len spec material fits =
    let s : ℕ = spec.sector in
    let unit : 512 ≤ s = at_least_a_unit s fits.outer.sector in
    record {
      no_system = refl;
      sector = fits.outer.sector;
      start_whole =
          whole_without s (len - 131072) spec.size fits.outer.sector
          (whole_without s len 131072 fits.outer.sector fits.outer.whole (group_whole s fits.outer.sector)) fits.whole;
      size_whole = fits.whole;
      not_empty = at_least_one s spec.size fits.outer.sector fits.not_empty fits.whole;
      behind_headers = omega (arith, fits.fits, unit, fits.outer.shortest);
      encrypted = omega arith;
      before_backups = omega (arith, fits.fits, unit, fits.outer.shortest);
      fits_slot = fits.not_empty;
    }

pub meets_hidden_backup : (len : ℕ) (spec : HiddenSpec) (material : List ℕ) → IsHideable len spec.size spec.sector
    → Meets (hidden_fields len spec material) BackupHidden len
meets_hidden_backup len spec material fits = let m : Meets (hidden_fields len spec material) Hidden len
    = meets_hidden len spec material fits in record {
      no_system = m.no_system;
      sector = m.sector;
      start_whole = m.start_whole;
      size_whole = m.size_whole;
      not_empty = m.not_empty;
      behind_headers = m.behind_headers;
      encrypted = m.encrypted;
      before_backups = m.before_backups;
      fits_slot = fits.not_empty;
    }

-- ---- the image

-- what is at the place of a write
part_at : (at : ℕ) (xs b : List ℕ) → length xs ≡ 512 → at ≤ length b → take 512 (drop at (written at xs b)) ≡ xs
part_at at xs b long inside =
    ap (take 512) (drop_from at xs b inside) ∙ take_at xs (drop (at + length xs) b) 512 long

module _ (spec : HiddenSpec) (b salt salt' : List ℕ) (f : Fields) (long : 262656 ≤ length b) where
  abbrev header : List ℕ
  header = header_under (hidden_sealing_of spec) salt f

  abbrev header' : List ℕ
  header' = header_under (hidden_sealing_of spec) salt' f

  -- with the hidden header, and then with its backup
  abbrev pub with_hidden : List ℕ
  with_hidden = written 65536 header b

  abbrev pub with_hidden_backup : List ℕ
  with_hidden_backup = written (length b - 65536) header' with_hidden

  module _ (size : length header ≡ 512) (size' : length header' ≡ 512) where
    length-hidden : length with_hidden ≡ length b
    length-hidden = length-written 65536 header b (omega (arith, size, long))

    pub length-hidden_backup : length with_hidden_backup ≡ length b
    length-hidden_backup =
        length-written (length b - 65536) header' with_hidden (omega (arith, size', length-hidden, long)) ∙ length-hidden

    pub header_is : header_at Hidden with_hidden_backup ≡ header
    header_is =
        part_before (length b - 65536) 65536 512 header' with_hidden (omega (arith, long))
        (omega (arith, length-hidden, long))
        ∙ part_at 65536 header b size (omega (arith, long))

    pub backup_is : header_at BackupHidden with_hidden_backup ≡ header'
    backup_is =
        ap (λ (n : ℕ). take 512 (drop (n - 65536) with_hidden_backup)) length-hidden_backup
        ∙ part_at (length b - 65536) header' with_hidden size' (omega (arith, length-hidden, long))

    -- which is what formatting is defined to make
    pub hidden_is : (g : ChaCha) → f ≡ hidden_fields_from (length b) g spec
        → salt ≡ stream_bytes g (key_bytes spec.algorithm) 64
        → salt' ≡ stream_bytes g (key_bytes spec.algorithm + 64) 64 → with_hidden_backup ≡ formatted_hidden g spec b
    unfolding formatted_hidden
    hidden_is g fields first second =
        ap (λ (n : ℕ). written (n - 65536) header' with_hidden) (sym length-hidden)
        ∙ ap₂ (λ (s : List ℕ) (h : Fields). written (length (written 65536 (header_under (hidden_sealing_of spec) s h) b) - 65536)
        (header_under (hidden_sealing_of spec) salt' h) (written 65536 (header_under (hidden_sealing_of spec) s h) b))
        first fields
        ∙ ap (λ (s : List ℕ). written
        (length (written 65536 (header_under (hidden_sealing_of spec) (stream_bytes g (key_bytes spec.algorithm) 64)
        (hidden_fields_from (length b) g spec)) b) - 65536)
        (header_under (hidden_sealing_of spec) s (hidden_fields_from (length b) g spec))
        (written 65536 (header_under (hidden_sealing_of spec) (stream_bytes g (key_bytes spec.algorithm) 64)
        (hidden_fields_from (length b) g spec)) b)) second

-- a header of a salt and a body
length-header : (spec : HiddenSpec) (salt : List ℕ) (f : Fields) → length salt ≡ 64
    → IsReadable (hidden_sealing_of spec) salt f → length (header_under (hidden_sealing_of spec) salt f) ≡ 512
length-header spec salt f long readable =
    length-append salt (body_under (hidden_sealing_of spec) salt f) ∙ omega (arith, long, readable.as_long)

-- with both headers it is all that is said of it
hidden_image_is : HeadersOpenAgain → IsDecided → (g : ChaCha) (spec : HiddenSpec) (b salt salt' : List ℕ) (f : Fields)
    (fits : IsHideable (length b) spec.size spec.sector) (long : 262656 ≤ length b)
    → f ≡ hidden_fields_from (length b) g spec
    → salt ≡ stream_bytes g (key_bytes spec.algorithm) 64 → salt' ≡ stream_bytes g (key_bytes spec.algorithm + 64) 64
    → length salt ≡ 64 → length salt' ≡ 64
    → IsReadable (hidden_sealing_of spec) salt f → IsReadable (hidden_sealing_of spec) salt' f
    → IsHidden g spec b (with_hidden_backup spec b salt salt' f long)
hidden_image_is law decided g spec b salt salt' f fits long fields first second salt_long salt_long' r q =
    let image : List ℕ = with_hidden_backup spec b salt salt' f long in
    let size = length-header spec salt f salt_long r in
    let size' = length-header spec salt' f salt_long' q in
    let m : Meets f Hidden (length b) = subst (λ (f : Fields). Meets f Hidden (length b)) (sym fields)
    (meets_hidden (length b) spec (material_of g 0 spec.algorithm) fits) in
    let m' : Meets f BackupHidden (length b) = subst (λ (f : Fields). Meets f BackupHidden (length b)) (sym fields)
    (meets_hidden_backup (length b) spec (material_of g 0 spec.algorithm) fits) in
    record {
      is = hidden_is spec b salt salt' f long size size' g fields first second;
      headers = subst (λ (f : Fields). HasBothHeaders HiddenOnly Hidden BackupHidden (hidden_sealing_of spec) f image) fields
          (both_headers decided HiddenOnly Hidden BackupHidden (hidden_sealing_of spec) f image (length b) refl
          (sym (length-hidden_backup spec b salt salt' f long size size'))
          (read_again law (hidden_sealing_of spec) salt (header_at Hidden image) f salt_long
          (header_is spec b salt salt' f long size size') r)
          (read_again law (hidden_sealing_of spec) salt' (header_at BackupHidden image) f salt_long'
          (backup_is spec b salt salt' f long size size') q)
          (r.valid Hidden (length b) m) (r.valid BackupHidden (length b) m') r.again);
    }

-- ---- step by step, if the store's contents are known

abbrev WritesHeader : ℕ → HiddenSpec → List ℕ → Fields → Option (List ℕ) → Option (List ℕ) → Type 0
WritesHeader at spec salt f old new =
    Both old new (λ b c. c ≡ written at (header_under (hidden_sealing_of spec) salt f) b)

pub made_hidden : HeadersOpenAgain → IsDecided → (i j k : Option (List ℕ)) (g : ChaCha) (spec : HiddenSpec) (len : ℕ)
    (salt salt' : List ℕ) (f : Fields) → IsHideable len spec.size spec.sector
    → ((b : List ℕ) → i ≡ Some b → length b ≡ len)
    → f ≡ hidden_fields_from len g spec
    → salt ≡ stream_bytes g (key_bytes spec.algorithm) 64 → salt' ≡ stream_bytes g (key_bytes spec.algorithm + 64) 64
    → length salt ≡ 64 → length salt' ≡ 64
    → IsReadable (hidden_sealing_of spec) salt f → IsReadable (hidden_sealing_of spec) salt' f
    → WritesHeader 65536 spec salt f i j → WritesHeader (len - 65536) spec salt' f j k
    → Both i k (IsHidden g spec)
made_hidden law decided None j k g spec len salt salt' f fits whole fields first second long long' r q one two = tt
made_hidden law decided (Some b) None k g spec len salt salt' f fits whole fields first second long long' r q one two =
    absurd one
made_hidden law decided (Some b) (Some c) None g spec len salt salt' f fits whole fields first second long long' r q one two =
    absurd two
made_hidden law decided (Some b) (Some c) (Some d) g spec len salt salt' f fits whole fields first second long long' r q one two =
    let same : len ≡ length b = sym (whole b refl) in
    let fits' : IsHideable (length b) spec.size spec.sector = subst (λ (n : ℕ). IsHideable n spec.size spec.sector) same fits in
    let unit : 512 ≤ spec.sector = at_least_a_unit spec.sector fits'.outer.sector in
    let enough : 262656 ≤ length b = omega (arith, unit, fits'.outer.shortest) in
    let is : d ≡ with_hidden_backup spec b salt salt' f enough
    = two ∙ ap₂ (λ (n : ℕ) (x : List ℕ). written (n - 65536) (header_under (hidden_sealing_of spec) salt' f) x) same one in
    subst (IsHidden g spec b) (sym is)
    (hidden_image_is law decided g spec b salt salt' f fits' enough
    (fields ∙ ap (λ (n : ℕ). hidden_fields_from n g spec) same) first second long long' r q)

-- ---- what changes

-- nothing, or bytes of the first slot alone, or of both
pub no_slot : (image : Option (List ℕ)) → Both image image OnlyHiddenSlots
no_slot None = tt
no_slot (Some b) = record {
  between = b;
  hidden = outside-same 65536 512 b;
  backup = outside-same (length b - 65536) 512 b;
}

pub both_slots : (i j k : Option (List ℕ)) (len : ℕ) → ((b : List ℕ) → i ≡ Some b → length b ≡ len)
    → Both i j (SameOutside 65536 512) → Both j k (SameOutside (len - 65536) 512) → Both i k OnlyHiddenSlots
both_slots None j k len whole one two = tt
both_slots (Some b) None k len whole one two = absurd one
both_slots (Some b) (Some c) None len whole one two = absurd two
both_slots (Some b) (Some c) (Some d) len whole one two = record {
  between = c;
  hidden = one;
  backup = subst (λ (n : ℕ). SameOutside (n - 65536) 512 c d) (sym (whole b refl)) two;
}

pub first_slot : (i j : Option (List ℕ)) → Both i j (SameOutside 65536 512) → Both i j OnlyHiddenSlots
first_slot None j one = tt
first_slot (Some b) None one = absurd one
first_slot (Some b) (Some c) one = record {
  between = c;
  hidden = one;
  backup = outside-same (length b - 65536) 512 c;
}

-- the image has the length that was asked for
pub whole_by : (image : Option (List ℕ)) (size len : ℕ) → size ≡ len → IfSome image (λ b. length b ≡ size)
    → (b : List ℕ) → image ≡ Some b → length b ≡ len
whole_by image size len same whole b is = subst (λ (i : Option (List ℕ)). IfSome i (λ b. length b ≡ size)) is whole ∙ same

-- ---- what is drawn

-- keys, then a salt, then another one
pub drawn_on : (g h k : ChaCha) (m n : ℕ) → m % 4 ≡ 0 → h ≡ advanced g m → k ≡ advanced h n → k ≡ advanced g (m + n)
drawn_on g h k m n whole moved more =
    more ∙ ap (λ (s : ChaCha). advanced s n) moved ∙ advanced_twice g m n whole

pub drawn_later : (g h : ChaCha) (m : ℕ) (salt : List ℕ) → h ≡ advanced g m → salt ≡ stream_bytes h 0 64
    → salt ≡ stream_bytes g m 64
drawn_later g h m salt moved drawn =
    drawn ∙ ap (λ (s : ChaCha). stream_bytes s 0 64) moved ∙ stream_advanced g m 64

-- the keys are whole words of the stream
pub whole_keys : (a : Algorithm) → key_bytes a % 4 ≡ 0
whole_keys a = omega arith

pub headers_of_hidden : (old new : Option (List ℕ)) (g : ChaCha) (spec : HiddenSpec) → Both old new (IsHidden g spec)
    → Both old new (λ b c. HasBothHeaders HiddenOnly Hidden BackupHidden (hidden_sealing_of spec)
    (hidden_fields_from (length b) g spec) c)
headers_of_hidden None new g spec made = tt
headers_of_hidden (Some b) None g spec made = absurd made
headers_of_hidden (Some b) (Some c) g spec made = made.headers

-- ---- a header written into a slot

place_inside : (slot : Slot) (len : ℕ) → 262656 ≤ len → place_of slot len + 512 ≤ len
place_inside Standard len long = omega (arith, long)
place_inside Hidden len long = omega (arith, long)
place_inside BackupStandard len long = omega (arith, long)
place_inside BackupHidden len long = omega (arith, long)

pub slot_inside : (slot : Slot) (len at size n : ℕ) → 262656 ≤ len → at ≡ place_of slot len → size ≡ len → n ≡ 512
    → at + n ≤ size
slot_inside slot len at size n long place same count = omega (arith, place_inside slot len long, place, same, count)

pub slot_written : {T E : Type 0} (r : Result T E) (old new : Option (List ℕ)) (slot : Slot) (len at : ℕ) (xs header : List ℕ)
    → at ≡ place_of slot len → xs ≡ header
    → OnOk r (Both old new (λ b c. c ≡ written at xs b))
    → OnOk r (Both old new (λ b c. c ≡ written (place_of slot len) header b))
slot_written {T} {E} r old new slot len at xs header place same written_at =
    subst (λ (x : List ℕ). OnOk r (Both old new (λ b c. c ≡ written (place_of slot len) x b))) same
    (subst (λ (k : ℕ). OnOk r (Both old new (λ b c. c ≡ written k xs b))) place written_at)

-- a write changes only its range, if it succeeds and if it fails
by_contents : (old new : Option (List ℕ)) (at size : ℕ) (xs : List ℕ) → length xs ≡ 512 → at + 512 ≤ size
    → IfSome old (λ b. length b ≡ size) → Both old new (λ b c. c ≡ written at xs b) → Both old new (SameOutside at 512)
by_contents None new at size xs long inside whole written_at = tt
by_contents (Some b) None at size xs long inside whole written_at = absurd written_at
by_contents (Some b) (Some c) at size xs long inside whole written_at =
    subst (SameOutside at 512 b) (sym written_at)
    (subst (λ (n : ℕ). SameOutside at n b (written at xs b)) long
    (written-outside at xs b (omega (arith, long, inside, whole))))

pub slot_outside : {T E : Type 0} (r : Result T E) (old new : Option (List ℕ)) (slot : Slot) (len at : ℕ) (xs : List ℕ)
    → length xs ≡ 512 → at ≡ place_of slot len → 262656 ≤ len → (size : ℕ) → size ≡ len
    → IfSome old (λ b. length b ≡ size)
    → OnOk r (Both old new (λ b c. c ≡ written at xs b)) → OnErr r (Both old new (SameOutside at (length xs)))
    → Both old new (SameOutside (place_of slot len) 512)
slot_outside {T} {E} (Ok x) old new slot len at xs count place long size same whole written_at outside =
    subst (λ (k : ℕ). Both old new (SameOutside k 512)) place
    (by_contents old new at size xs count (omega (arith, place_inside slot len long, place, same)) whole written_at)
slot_outside {T} {E} (Err x) old new slot len at xs count place long size same whole written_at outside =
    subst (λ (k : ℕ). Both old new (SameOutside k 512)) place
    (subst (λ (n : ℕ). Both old new (SameOutside at n)) count outside)
