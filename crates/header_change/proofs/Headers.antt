-- The headers that are in the slots of a pair in the end, and that they open.
--
-- The backup is written after the primary header, and leaves it.
use Rattle.std.proofs.Common.{◌≡◌, ◌≤◌, ℕ, ◌+◌, List, length, take, drop, sym, ap, ap₂, ◌∙◌, subst, arith, length-append}
use Rattle.std.proofs.lemmas.List.{take_at}
use Rattle.vc_outside.specs.Told.{SameOutside, written}
use Rattle.vc_outside.proofs.Writes.{written-outside}
use Rattle.vc_layout.specs.Layout.{place_of}
use Rattle.vc_layout.specs.declared.slots.Slot.{Slot}
use Rattle.vc_header.specs.Header.{body_of, fields_of, Meets, Valid}
use Rattle.vc_header.specs.Laws.Tests.{is_valid}
use Rattle.vc_header.specs.declared.fields.Fields.{Fields}
use Rattle.header_seal.specs.Sealed.{header_at, HeadersOpenAgain, plain_by}
use Rattle.volume_format.specs.Formatted.{body_under, Sealing}
use Rattle.volume_format.specs.Hidden.{header_under, with_header}
use Rattle.volume_format.specs.Opens.{HasHeader}
use Rattle.volume_format.proofs.Images.{IsReadable, read_again}
use Rattle.volume_format.proofs.Making.{both_headers, IsDecided}
use Rattle.volume_format.proofs.Opening.{opens}
use Rattle.volume_format.proofs.Writes.{drop_from, length-written}
use Rattle.header_change.specs.Changed.{HasPair, HasPrimary}
use Rattle.header_change.specs.Pair.{backup_of, kind_of, primary_of}
use Rattle.header_change.proofs.Slots.{meets_backup, meets_primary, one_slot, place_inside, primary_same}

-- ---- one header

pub length-header : (k : Sealing) (salt : List ℕ) (f : Fields) → length salt ≡ 64 → IsReadable k salt f
    → length (header_under k salt f) ≡ 512
length-header k salt f long readable = length-append salt (body_under k salt f) ∙ omega (arith, long, readable.as_long)

part_at : (at : ℕ) (xs b : List ℕ) → length xs ≡ 512 → at ≤ length b → take 512 (drop at (written at xs b)) ≡ xs
part_at at xs b long inside =
    ap (take 512) (drop_from at xs b inside) ∙ take_at xs (drop (at + length xs) b) 512 long

module _ (k : Sealing) (f : Fields) (s : Slot) (salt b : List ℕ) (long : 262656 ≤ length b) (salt_long : length salt ≡ 64)
    (readable : IsReadable k salt f) where
  header : List ℕ
  header = header_under k salt f

  inside : place_of s (length b) + length (header_under k salt f) ≤ length b
  inside = omega (arith, place_inside s (length b) long, length-header k salt f salt_long readable)

  pub same_length : length (with_header k salt f s b) ≡ length b
  same_length = length-written (place_of s (length b)) (header_under k salt f) b inside

  pub header_is : header_at s (with_header k salt f s b) ≡ header_under k salt f
  header_is =
      ap (λ (n : ℕ). take 512 (drop (place_of s n) (with_header k salt f s b))) same_length
      ∙ part_at (place_of s (length b)) (header_under k salt f) b (length-header k salt f salt_long readable)
      (omega (arith, inside))

  pub slot_alone : SameOutside (place_of s (length b)) 512 b (with_header k salt f s b)
  slot_alone =
      subst (λ (n : ℕ). SameOutside (place_of s (length b)) n b (with_header k salt f s b))
      (length-header k salt f salt_long readable) (written-outside (place_of s (length b)) (header_under k salt f) b inside)

-- an image with this header in a slot
pub carries : HeadersOpenAgain → (k : Sealing) (f : Fields) (s : Slot) (salt image : List ℕ) → length salt ≡ 64
    → IsReadable k salt f → header_at s image ≡ header_under k salt f → HasHeader image s k f
carries law k f s salt image long readable is = read_again law k salt (header_at s image) f long is readable

-- ---- the pair

-- an image with a valid primary header
pub has_primary : IsDecided → (slot : Slot) (k : Sealing) (f : Fields) (image : List ℕ) (len : ℕ) → len ≡ length image
    → HasHeader image (primary_of slot) k f → Valid (body_of f) (primary_of slot) len → fields_of (body_of f) ≡ f
    → HasPrimary slot k f image
has_primary decided slot k f image len long carried valid again = record {
  header = carried;
  valid = subst (λ (n : ℕ). Valid plain s n) long (subst (λ (b : List ℕ). Valid b s len) (sym carried) valid);
  opens = opens (kind_of slot) s k f image (one_slot slot)
      (ap₂ (λ (b : List ℕ) (n : ℕ). is_valid b s n) carried (sym long) ∙ (decided (body_of f) s len).1 valid)
      (ap fields_of carried ∙ again);
}
  where
    s : Slot
    s = primary_of slot

    plain : List ℕ
    plain = plain_by k.prf k.algorithm k.password k.pim (header_at (primary_of slot) image)

module _ (law : HeadersOpenAgain) (decided : IsDecided) (slot : Slot) (k : Sealing) (f : Fields) (b salt : List ℕ)
    (long : 262656 ≤ length b) (meets : Meets f slot (length b)) (salt_long : length salt ≡ 64)
    (readable : IsReadable k salt f) where
  abbrev with_primary : List ℕ
  with_primary = with_header k salt f (primary_of slot) b

  -- with the primary header alone
  pub primary_opens : HasPrimary slot k f with_primary
  primary_opens =
      has_primary decided slot k f with_primary (length b)
      (sym (same_length k f (primary_of slot) salt b long salt_long readable))
      (carries law k f (primary_of slot) salt with_primary salt_long readable
      (header_is k f (primary_of slot) salt b long salt_long readable))
      (readable.valid (primary_of slot) (length b) (meets_primary f slot (length b) meets)) readable.again

  module _ (salt' : List ℕ) (salt_long' : length salt' ≡ 64) (readable' : IsReadable k salt' f) where
    abbrev with_backup : List ℕ
    with_backup = with_header k salt' f (backup_of slot) with_primary

    as_long : length with_primary ≡ length b
    as_long = same_length k f (primary_of slot) salt b long salt_long readable

    still_long : 262656 ≤ length with_primary
    still_long = omega (arith, as_long, long)

    -- and with its backup
    pub pair_opens : HasPair slot k f with_backup
    pair_opens =
        both_headers decided (kind_of slot) (primary_of slot) (backup_of slot) k f with_backup (length b) (one_slot slot)
        (sym (same_length k f (backup_of slot) salt' with_primary still_long salt_long' readable' ∙ as_long))
        (carries law k f (primary_of slot) salt with_backup salt_long readable
        (primary_same slot with_primary with_backup still_long
        (slot_alone k f (backup_of slot) salt' with_primary still_long salt_long' readable')
        ∙ header_is k f (primary_of slot) salt b long salt_long readable))
        (carries law k f (backup_of slot) salt' with_backup salt_long' readable'
        (header_is k f (backup_of slot) salt' with_primary still_long salt_long' readable'))
        (readable.valid (primary_of slot) (length b) (meets_primary f slot (length b) meets))
        (readable'.valid (backup_of slot) (length b) (meets_backup f slot (length b) meets))
        readable.again
