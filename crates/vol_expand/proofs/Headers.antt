-- The image with its new headers.
--
-- The salt of the new backup is what the fill left in its slot, and the backup's body is written behind it. The
-- standard header is written after it, and leaves it.
use Rattle.std.proofs.Common.{◌≡◌, ◌≤◌, ◌<◌, ℕ, ◌+◌, ◌-◌, List, ◌++◌, length, take, drop, Option, Some, None, sym, ap, ap₂, ◌∙◌, subst, arith, length-drop}
use Rattle.std.specs.Prelude.{◌↔◌, IfSome, MatchOption}
use Rattle.std.proofs.lemmas.List.{drop-append-le, drop-drop, take-append-le, take-take}
use Rattle.rand_chacha.specs.ChaCha.{ChaCha}
use Rattle.vc_outside.specs.Told.{Both, resized, SameOutside, written}
use Rattle.vc_layout.specs.declared.slots.Slot.{Slot}
use Rattle.vc_layout.specs.declared.slots.Slot.TheVariants.{Standard, BackupStandard}
use Rattle.vc_layout.specs.declared.kind.Kind.TheVariants.{StandardOnly}
use Rattle.vc_header.specs.Header.{fields_of, Meets, Valid}
use Rattle.vc_header.specs.declared.fields.Fields.{Fields}
use Rattle.header_seal.specs.Sealed.{header_at, HeadersOpenAgain, plain_by}
use Rattle.volume_format.specs.Formatted.{body_under, Sealing, with_body}
use Rattle.volume_format.specs.Hidden.{with_header}
use Rattle.volume_format.specs.Opens.{HasBothHeaders}
use Rattle.volume_format.specs.Stream.{advanced, stream_bytes}
use Rattle.volume_format.proofs.Draws.{stream_advanced}
use Rattle.volume_format.proofs.Images.{header_written, IsReadable, read_again}
use Rattle.volume_format.proofs.Writes.{drop_from, length-written}
use Rattle.header_change.specs.Changed.{HasPrimary}
use Rattle.header_change.specs.Moments.{After}
use Rattle.header_change.specs.Pair.{OnlyPrimary, primary_of}
use Rattle.header_change.proofs.Slots.{backup_same}
use Rattle.vol_expand.specs.Expanded.{expanded, expanded_fields, fill_bytes, words_of}
use Rattle.vol_expand.specs.Stops.{Carries, Expands, HasNewBackup, PartsStay}
use Rattle.vol_expand.proofs.Filling.{IsFilled, length-fill, written_to_the_end}
use Rattle.vol_expand.proofs.Growing.{meets_backup}
use Rattle.vol_expand.proofs.Parts.{header_last, stay_behind}

-- ---- the new backup

module _ (g : ChaCha) (k : Sealing) (f : Fields) (len size : ℕ) (b : List ℕ) (long : 262656 ≤ len) (longer : len < size)
    (whole : length b ≡ size) where
  abbrev from : ℕ
  from = len - 131072

  abbrev pub fill : List ℕ
  fill = fill_bytes g (size - (len - 131072))

  abbrev pub with_fill : List ℕ
  with_fill = written (len - 131072) (fill_bytes g (size - (len - 131072))) b

  fits : len - 131072 + length fill ≤ length b
  fits = omega (arith, whole, long, longer, length-fill g (size - (len - 131072)))

  length-filled : length with_fill ≡ size
  length-filled = length-written from fill b fits ∙ whole

  slot_salt : take 64 (drop (size - 131072) with_fill) ≡ take 64 (drop (size - len) fill)
  slot_salt =
      let place : size - 131072 ≡ len - 131072 + (size - len) = omega (arith, long, longer) in
      ap (λ (i : ℕ). take 64 (drop i with_fill)) place
      ∙ ap (take 64) (sym (drop-drop (size - len) from with_fill)
      ∙ ap (drop (size - len)) (drop_from from fill b (omega (arith, fits)))
      ∙ drop-append-le (size - len) fill (drop (from + length fill) b)
      (omega (arith, long, longer, length-fill g (size - (len - 131072)))))
      ∙ take-append-le 64 (drop (size - len) fill) (drop (from + length fill) b)
      (omega (arith, long, longer, length-drop (size - len) fill, length-fill g (size - (len - 131072))))

  module _ (salt : List ℕ) (is : salt ≡ take 64 (drop (size - len) fill)) where
    in_slot : take 64 (drop (size - 131072) with_fill) ≡ salt
    in_slot = slot_salt ∙ sym is

    abbrev pub with_backup : List ℕ
    with_backup = written (size - 131072 + 64) (body_under k salt f) with_fill

    pub body_is : with_backup ≡ with_body k f BackupStandard with_fill
    body_is =
        ap (λ (s : List ℕ). written (size - 131072 + 64) (body_under k s f) with_fill)
        (sym in_slot ∙ sym (take-take 64 512 (drop (size - 131072) with_fill) (omega arith)))
        ∙ ap (λ (n : ℕ). written (n - 131072 + 64)
        (body_under k (take 64 (take 512 (drop (n - 131072) with_fill))) f) with_fill) (sym length-filled)

    module _ (law : HeadersOpenAgain) (salt_long : length salt ≡ 64) (readable : IsReadable k salt f)
        (meets : Meets f Standard size) where
      length-backup : length with_backup ≡ size
      length-backup =
          length-written (size - 131072 + 64) (body_under k salt f) with_fill
          (omega (arith, long, longer, length-filled, readable.as_long))
          ∙ length-filled

      header_is : header_at BackupStandard with_backup ≡ salt ++ body_under k salt f
      header_is =
          ap (λ (n : ℕ). take 512 (drop (n - 131072) with_backup)) length-backup
          ∙ header_written (size - 131072) (body_under k salt f) with_fill readable.as_long
          (omega (arith, long, longer, length-filled))
          ∙ ap (λ (s : List ℕ). s ++ body_under k salt f) in_slot

      carried : Carries BackupStandard k f with_backup
      carried = read_again law k salt (header_at BackupStandard with_backup) f salt_long header_is readable

      pub backup_is : HasNewBackup k f size with_backup
      backup_is = record {
        as_long = length-backup;
        carried = carried;
        read = record {
          valid =
              subst (λ (n : ℕ). Valid (plain_by k.prf k.algorithm k.password k.pim (header_at BackupStandard with_backup))
              BackupStandard n) (sym length-backup)
              (subst (λ (x : List ℕ). Valid x BackupStandard size) (sym carried)
              (readable.valid BackupStandard size (meets_backup f size meets)));
          fields = ap fields_of carried ∙ readable.again;
        };
      }

-- the images of a store
abbrev WritesBody : ℕ → Sealing → List ℕ → Fields → Option (List ℕ) → Option (List ℕ) → Type 0
WritesBody size k salt f old new = Both old new (λ b c. c ≡ written (size - 131072 + 64) (body_under k salt f) b)

abbrev pub HasEnd : ChaCha → Sealing → Fields → ℕ → ℕ → Option (List ℕ) → Option (List ℕ) → Type 0
HasEnd g k f len size old new = Both old new (λ b c.
    c ≡ with_body k f BackupStandard (written (len - 131072) (fill_bytes g (size - (len - 131072))) b))

pub end_written : (g : ChaCha) (k : Sealing) (f : Fields) (len size : ℕ) (salt : List ℕ) (old middle new : Option (List ℕ))
    → 262656 ≤ len → len < size → IfSome old (λ b. length b ≡ size)
    → salt ≡ take 64 (drop (size - len) (fill_bytes g (size - (len - 131072))))
    → IsFilled g (len - 131072) (size - (len - 131072)) old middle → WritesBody size k salt f middle new
    → HasEnd g k f len size old new
end_written g k f len size salt None middle new long longer whole is one two = tt
end_written g k f len size salt (Some a) None new long longer whole is one two = absurd one
end_written g k f len size salt (Some a) (Some b) None long longer whole is one two = absurd two
end_written g k f len size salt (Some a) (Some b) (Some c) long longer whole is one two =
    two ∙ ap (written (size - 131072 + 64) (body_under k salt f)) one
    ∙ body_is g k f len size a long longer whole salt is

pub end_opens : (g : ChaCha) (k : Sealing) (f : Fields) (len size : ℕ) (salt : List ℕ) (old middle new : Option (List ℕ))
    → 262656 ≤ len → len < size → IfSome old (λ b. length b ≡ size)
    → salt ≡ take 64 (drop (size - len) (fill_bytes g (size - (len - 131072))))
    → HeadersOpenAgain → length salt ≡ 64 → IsReadable k salt f → Meets f Standard size
    → IsFilled g (len - 131072) (size - (len - 131072)) old middle → WritesBody size k salt f middle new
    → Both old new (λ _ c. HasNewBackup k f size c)
end_opens g k f len size salt None middle new long longer whole is law salt_long readable meets one two = tt
end_opens g k f len size salt (Some a) None new long longer whole is law salt_long readable meets one two = absurd one
end_opens g k f len size salt (Some a) (Some b) None long longer whole is law salt_long readable meets one two = absurd two
end_opens g k f len size salt (Some a) (Some b) (Some c) long longer whole is law salt_long readable meets one two =
    subst (HasNewBackup k f size)
    (sym (two ∙ ap (written (size - 131072 + 64) (body_under k salt f)) one))
    (backup_is g k f len size a long longer whole salt is law salt_long readable meets)

-- ---- the standard header after it

pub backup_stays : (k : Sealing) (f : Fields) (size : ℕ) (b c : List ℕ) → 262656 ≤ size → HasNewBackup k f size b
    → SameOutside 0 512 b c → HasNewBackup k f size c
backup_stays k f size b c long there only =
    let as_long : length c ≡ length b = only.as_long in
    let same : header_at BackupStandard c ≡ header_at BackupStandard b
    = backup_same Standard b c (omega (arith, long, there.as_long)) only in
    record {
      as_long = as_long ∙ there.as_long;
      carried = ap (plain_by k.prf k.algorithm k.password k.pim) same ∙ there.carried;
      read = record {
        valid =
            subst (λ (n : ℕ). Valid (plain_by k.prf k.algorithm k.password k.pim (header_at BackupStandard c))
            BackupStandard n) (sym as_long)
            (subst (λ (h : List ℕ). Valid (plain_by k.prf k.algorithm k.password k.pim h) BackupStandard (length b))
            (sym same) there.read.valid);
        fields = ap (λ (h : List ℕ). fields_of (plain_by k.prf k.algorithm k.password k.pim h)) same ∙ there.read.fields;
      };
    }

pub as_standard : (slot : Slot) (b c : List ℕ) → slot ≡ Standard → OnlyPrimary slot b c → SameOutside 0 512 b c
as_standard slot b c is only = subst (λ (s : Slot). OnlyPrimary s b c) is only

-- all that is written in the end
pub all_written : (g h : ChaCha) (k : Sealing) (f : Fields) (slot : Slot) (len size : ℕ) (old middle new : Option (List ℕ))
    → slot ≡ Standard → h ≡ advanced g (words_of (size - (len - 131072)))
    → HasEnd g k f len size old middle
    → Both middle new (λ b c. c ≡ with_header k (stream_bytes h 0 64) f (primary_of slot) b)
    → Both old new (λ b c. c ≡ with_header k (stream_bytes g (words_of (size - (len - 131072))) 64) f Standard
    (with_body k f BackupStandard (written (len - 131072) (fill_bytes g (size - (len - 131072))) b)))
all_written g h k f slot len size None middle new is moved one two = tt
all_written g h k f slot len size (Some a) None new is moved one two = absurd one
all_written g h k f slot len size (Some a) (Some b) None is moved one two = absurd two
all_written g h k f slot len size (Some a) (Some b) (Some c) is moved one two =
    two
    ∙ ap₂ (λ (s : Slot) (x : List ℕ). with_header k (stream_bytes h 0 64) f (primary_of s) x) is one
    ∙ ap (λ (salt : List ℕ). with_header k salt f Standard (with_body k f BackupStandard
    (written (len - 131072) (fill_bytes g (size - (len - 131072))) a)))
    (ap (λ (s : ChaCha). stream_bytes s 0 64) moved ∙ stream_advanced g (words_of (size - (len - 131072))) 64)

pub all_open : (k : Sealing) (f : Fields) (slot : Slot) (size : ℕ) (old middle new : Option (List ℕ)) → slot ≡ Standard
    → 262656 ≤ size → Both old middle (λ _ c. HasNewBackup k f size c)
    → Both middle new (OnlyPrimary slot)
    → Both middle new (λ _ c. HasPrimary slot k f c)
    → Both old new (λ _ c. HasBothHeaders StandardOnly Standard BackupStandard k f c)
all_open k f slot size None middle new is long one two three = tt
all_open k f slot size (Some a) None new is long one two three = absurd one
all_open k f slot size (Some a) (Some b) None is long one two three = absurd two
all_open k f slot size (Some a) (Some b) (Some c) is long one two three =
    let first : HasPrimary Standard k f c = subst (λ (s : Slot). HasPrimary s k f c) is three in
    let second : HasNewBackup k f size c = backup_stays k f size b c long one (as_standard slot b c is two) in
    record {
      header = first.header;
      valid = first.valid;
      opens = first.opens;
      backup_header = second.carried;
      backup_valid = second.read.valid;
    }

-- ---- what a crash may leave from the first sync on

pub late : (slot : Slot) (k : Sealing) (f : Fields) (until size : ℕ) (old middle : Option (List ℕ))
    (could between : List ℕ → Type 0) → slot ≡ Standard → 262656 ≤ size → until ≤ size
    → IfSome old (λ b. length b ≡ size) → Both old middle (PartsStay 0 until)
    → Both old middle (λ _ c. HasNewBackup k f size c)
    → MatchOption old ⊥ (λ b. could b)
    → MatchOption middle ⊥ (λ b. (c : List ℕ) → between c ↔ c ≡ b)
    → (c : List ℕ) → After between (OnlyPrimary slot) c → After could (Expands until size k f) c
late slot k f until size None middle could between is long enough whole stay there stays lasting c after = absurd stays
late slot k f until size (Some b) None could between is long enough whole stay there stays lasting c after = absurd lasting
late slot k f until size (Some b) (Some m) could between is long enough whole stay there stays lasting c after =
    let was : after.0 ≡ m = (lasting after.0).0 after.1 in
    let only : SameOutside 0 512 m c
    = as_standard slot m c is (subst (λ (x : List ℕ). OnlyPrimary slot x c) was after.2) in (
      b,
      stays,
      header_last k f until size b m c enough whole there.as_long stay only (backup_stays k f size m c long there only),
    )

pub meets_at : (slot : Slot) (f : Fields) (len size : ℕ) → slot ≡ Standard → len ≡ size → Meets f Standard size
    → Meets f slot len
meets_at slot f len size is same meets =
    subst (λ (s : Slot). Meets f s len) (sym is) (subst (Meets f Standard) (sym same) meets)

pub standard_alone : (slot : Slot) (until : ℕ) (old new : Option (List ℕ)) → slot ≡ Standard
    → Both old new (OnlyPrimary slot) → Both old new (PartsStay 512 until)
standard_alone slot until None new is only = tt
standard_alone slot until (Some b) None is only = absurd only
standard_alone slot until (Some b) (Some c) is only = stay_behind 0 512 512 until b c (omega arith) (as_standard slot b c is only)

-- from the old image, whose length was set
pub expanded_from : (g : ChaCha) (k : Sealing) (f : Fields) (len size : ℕ) (old middle new : Option (List ℕ))
    → 262656 ≤ len → len < size → IfSome old (λ b. length b ≡ len) → Both old middle (λ b c. c ≡ resized size b)
    → Both middle new (λ b c. c ≡ with_header k (stream_bytes g (words_of (size - (len - 131072))) 64)
    (expanded_fields size f) Standard (with_body k (expanded_fields size f) BackupStandard
    (written (len - 131072) (fill_bytes g (size - (len - 131072))) b)))
    → Both old new (λ b c. c ≡ expanded g k f size b)
unfolding expanded
expanded_from g k f len size None middle new long longer whole one two = tt
expanded_from g k f len size (Some a) None new long longer whole one two = absurd one
expanded_from g k f len size (Some a) (Some b) None long longer whole one two = absurd two
expanded_from g k f len size (Some a) (Some b) (Some c) long longer whole one two =
    two
    ∙ ap (λ (x : List ℕ). with_header k (stream_bytes g (words_of (size - (len - 131072))) 64) (expanded_fields size f) Standard
    (with_body k (expanded_fields size f) BackupStandard x))
    (ap (written (len - 131072) (fill_bytes g (size - (len - 131072)))) one
    ∙ written_to_the_end (len - 131072) size (fill_bytes g (size - (len - 131072))) a (omega (arith, whole))
    (omega (arith, whole, longer))
    (omega (arith, long, longer, length-fill g (size - (len - 131072)))))
    ∙ ap (λ (n : ℕ). with_header k (stream_bytes g (words_of (size - (n - 131072))) 64) (expanded_fields size f) Standard
    (with_body k (expanded_fields size f) BackupStandard
    (take (n - 131072) a ++ fill_bytes g (size - (n - 131072))))) (sym whole)
