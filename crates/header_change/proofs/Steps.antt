-- From the steps of a call to what it promises.
--
-- Until the primary header is lasting, the backup of each outcome at the start is there. From then on each
-- outcome has the new primary header, and differs from the image at the start, which is an outcome itself.
use Rattle.std.proofs.Common.{◌≡◌, ◌≤◌, ℕ, ◌+◌, Bool, true, List, length, Option, Some, None, sym, ap, ap₂, ◌∙◌, subst, arith, inl, inr}
use Rattle.std.specs.Prelude.{◌⊎◌, ◌↔◌, IfSome, MatchOption, OnErr, OnOk, Result, Ok, Err}
use Rattle.vc_outside.specs.Crash.{Outcomes}
use Rattle.vc_outside.specs.Told.{Both, SameOutside, written}
use Rattle.vc_outside.proofs.Writes.{written-outside}
use Rattle.vc_layout.specs.Layout.{place_of}
use Rattle.vc_layout.specs.declared.slots.Slot.{Slot}
use Rattle.vc_header.specs.Header.{body_of, fields_of, Meets, Valid}
use Rattle.vc_header.specs.declared.fields.Fields.{Fields}
use Rattle.header_seal.specs.Sealed.{header_at, HeadersOpenAgain, plain_by}
use Rattle.volume_format.specs.Formatted.{Sealing}
use Rattle.volume_format.specs.Hidden.{header_under, with_header}
use Rattle.volume_format.specs.Opens.{HasHeader}
use Rattle.volume_format.proofs.Images.{IsReadable}
use Rattle.volume_format.proofs.Making.{IsDecided}
use Rattle.header_change.specs.Changed.{HasPair, HasPrimary}
use Rattle.header_change.specs.Moments.{After, BackupStays, Changes, EitherStays, HasFields, IsOpen}
use Rattle.header_change.specs.Pair.{backup_of, OnlyPair, OnlyPrimary, primary_of}
use Rattle.header_change.proofs.Headers.{carries, header_is, pair_opens, primary_opens, same_length, slot_alone}
use Rattle.header_change.proofs.Slots.{backup_same, fixed_place, pair_length, place_inside, primary_alone, primary_same, long_enough, valid_either}

-- ---- one header that is written

pub at_a_slot : (slot : Slot) (len at size n : ℕ) → 262656 ≤ len → at ≡ place_of slot len → size ≡ len → n ≡ 512
    → at + n ≤ size
at_a_slot slot len at size n long place same count = omega (arith, place_inside slot len long, place, same, count)

-- a write changes only its range, if it succeeds and if it fails
by_contents : (old new : Option (List ℕ)) (at size : ℕ) (xs : List ℕ) → length xs ≡ 512 → at + 512 ≤ size
    → IfSome old (λ b. length b ≡ size) → Both old new (λ b c. c ≡ written at xs b) → Both old new (SameOutside at 512)
by_contents None new at size xs long inside whole written_at = tt
by_contents (Some b) None at size xs long inside whole written_at = absurd written_at
by_contents (Some b) (Some c) at size xs long inside whole written_at =
    subst (SameOutside at 512 b) (sym written_at)
    (subst (λ (n : ℕ). SameOutside at n b (written at xs b)) long
    (written-outside at xs b (omega (arith, long, inside, whole))))

pub write_outside : {T E : Type 0} (r : Result T E) (old new : Option (List ℕ)) (slot : Slot) (len at size : ℕ) (xs : List ℕ)
    → length xs ≡ 512 → at ≡ place_of slot len → 262656 ≤ len → size ≡ len → IfSome old (λ b. length b ≡ size)
    → OnOk r (Both old new (λ b c. c ≡ written at xs b)) → OnErr r (Both old new (SameOutside at (length xs)))
    → Both old new (SameOutside (place_of slot len) 512)
write_outside {T} {E} (Ok x) old new slot len at size xs count place long same whole written_at outside =
    subst (λ (k : ℕ). Both old new (SameOutside k 512)) place
    (by_contents old new at size xs count (omega (arith, place_inside slot len long, place, same)) whole written_at)
write_outside {T} {E} (Err x) old new slot len at size xs count place long same whole written_at outside =
    subst (λ (k : ℕ). Both old new (SameOutside k 512)) place
    (subst (λ (n : ℕ). Both old new (SameOutside at n)) count outside)

pub at_place : {T E : Type 0} (r : Result T E) (old new : Option (List ℕ)) (at place : ℕ) (xs : List ℕ) → at ≡ place
    → OnOk r (Both old new (λ b c. c ≡ written at xs b)) → OnOk r (Both old new (λ b c. c ≡ written place xs b))
at_place {T} {E} r old new at place xs same written_at =
    subst (λ (k : ℕ). OnOk r (Both old new (λ b c. c ≡ written k xs b))) same written_at

pub outcomes_at : (tells : Bool) (before now : ℕ) (past since : ℕ → List ℕ → Type 0) (could can : List ℕ → Type 0)
    (at place n : ℕ) → at ≡ place → n ≡ 512
    → Outcomes tells before now past since could can (SameOutside at n)
    → Outcomes tells before now past since could can (SameOutside place 512)
outcomes_at tells before now past since could can at place n same count one =
    subst (λ (k : ℕ). Outcomes tells before now past since could can (SameOutside k 512)) same
    (subst (λ (k : ℕ). Outcomes tells before now past since could can (SameOutside at k)) count one)

-- what a call did stays if the image does
pub then_same : (old middle new : Option (List ℕ)) (P : List ℕ → List ℕ → Type 0) → new ≡ middle → Both old middle P
    → Both old new P
then_same old middle new P same before = subst (λ (i : Option (List ℕ)). Both old i P) (sym same) before

pub when_ok : {T E P : Type 0} (r : Result T E) → P → OnOk r P
when_ok {T} {E} {P} (Ok x) p = p
when_ok {T} {E} {P} (Err x) p = tt

pub on_ok : {T E P Q : Type 0} (r : Result T E) → (P → Q) → OnOk r P → OnOk r Q
on_ok {T} {E} {P} {Q} (Ok x) f p = f p
on_ok {T} {E} {P} {Q} (Err x) f p = tt

-- ---- the images

abbrev WritesHeader : ℕ → Slot → Sealing → List ℕ → Fields → Option (List ℕ) → Option (List ℕ) → Type 0
WritesHeader size s k salt f old new = Both old new (λ b c. c ≡ written (place_of s size) (header_under k salt f) b)

-- in the words of the definitions
abbrev pub HasWritten : Slot → Sealing → List ℕ → Fields → Option (List ℕ) → Option (List ℕ) → Type 0
HasWritten s k salt f old new = Both old new (λ b c. c ≡ with_header k salt f s b)

pub has_written : (s s' : Slot) (k : Sealing) (salt header : List ℕ) (f : Fields) (len size : ℕ) (old new : Option (List ℕ))
    → s' ≡ s → len ≡ size → header ≡ header_under k salt f → IfSome old (λ b. length b ≡ size)
    → Both old new (λ b c. c ≡ written (place_of s' len) header b) → HasWritten s k salt f old new
has_written s s' k salt header f len size None new slot same is whole written_at = tt
has_written s s' k salt header f len size (Some b) None slot same is whole written_at = absurd written_at
has_written s s' k salt header f len size (Some b) (Some c) slot same is whole written_at =
    written_at
    ∙ ap₂ (λ (n : ℕ) (h : List ℕ). written n h b)
    (ap (λ (t : Slot). place_of t len) slot ∙ ap (place_of s) (same ∙ sym whole)) is

-- from the stream that gave the salts
pub in_both : (s s' : Slot) (k : Sealing) (salt salt' first second : List ℕ) (f : Fields) (old middle new : Option (List ℕ))
    → salt ≡ first → salt' ≡ second → HasWritten s k salt f old middle → HasWritten s' k salt' f middle new
    → Both old new (λ b c. c ≡ with_header k second f s' (with_header k first f s b))
in_both s s' k salt salt' first second f None middle new is is' one two = tt
in_both s s' k salt salt' first second f (Some b) None new is is' one two = absurd one
in_both s s' k salt salt' first second f (Some b) (Some c) None is is' one two = absurd two
in_both s s' k salt salt' first second f (Some b) (Some c) (Some d) is is' one two =
    two
    ∙ ap₂ (λ (t x : List ℕ). with_header k t f s' x) is' one
    ∙ ap (λ (t : List ℕ). with_header k second f s' (with_header k t f s b)) is

pub from_stream : (s : Slot) (k : Sealing) (salt first : List ℕ) (f : Fields) (old new : Option (List ℕ)) → salt ≡ first
    → HasWritten s k salt f old new → HasWritten s k first f old new
from_stream s k salt first f old new is one = subst (λ (t : List ℕ). HasWritten s k t f old new) is one

-- ---- the headers

pub primary_has : HeadersOpenAgain → IsDecided → (slot : Slot) (k : Sealing) (f : Fields) (salt : List ℕ) (size : ℕ)
    (old new : Option (List ℕ)) → 262656 ≤ size → Meets f slot size → length salt ≡ 64 → IsReadable k salt f
    → IfSome old (λ b. length b ≡ size) → HasWritten (primary_of slot) k salt f old new
    → Both old new (λ _ c. HasPrimary slot k f c)
primary_has law decided slot k f salt size None new long meets salt_long readable whole one = tt
primary_has law decided slot k f salt size (Some b) None long meets salt_long readable whole one = absurd one
primary_has law decided slot k f salt size (Some b) (Some c) long meets salt_long readable whole one =
    subst (HasPrimary slot k f) (sym one)
    (primary_opens law decided slot k f b salt (omega (arith, long, whole))
    (subst (Meets f slot) (sym whole) meets) salt_long readable)

pub pair_has : HeadersOpenAgain → IsDecided → (slot : Slot) (k : Sealing) (f : Fields) (salt salt' : List ℕ) (size : ℕ)
    (old middle new : Option (List ℕ)) → 262656 ≤ size → Meets f slot size → length salt ≡ 64 → length salt' ≡ 64
    → IsReadable k salt f → IsReadable k salt' f → IfSome old (λ b. length b ≡ size)
    → HasWritten (primary_of slot) k salt f old middle → HasWritten (backup_of slot) k salt' f middle new
    → Both old new (λ _ c. HasPair slot k f c)
pair_has law decided slot k f salt salt' size None middle new long meets salt_long salt_long' r q whole one two = tt
pair_has law decided slot k f salt salt' size (Some b) None new long meets salt_long salt_long' r q whole one two = absurd one
pair_has law decided slot k f salt salt' size (Some b) (Some c) None long meets salt_long salt_long' r q whole one two = absurd two
pair_has law decided slot k f salt salt' size (Some b) (Some c) (Some d) long meets salt_long salt_long' r q whole one two =
    subst (HasPair slot k f) (sym (two ∙ ap (with_header k salt' f (backup_of slot)) one))
    (pair_opens law decided slot k f b salt (omega (arith, long, whole))
    (subst (Meets f slot) (sym whole) meets) salt_long r salt' salt_long' q)

-- ---- only the slots of the pair

pub only_primary : (slot s : Slot) (len : ℕ) (old new : Option (List ℕ)) → s ≡ primary_of slot
    → Both old new (SameOutside (place_of s len) 512) → Both old new (OnlyPrimary slot)
only_primary slot s len None new is one = tt
only_primary slot s len (Some b) None is one = absurd one
only_primary slot s len (Some b) (Some c) is one =
    subst (λ (n : ℕ). SameOutside n 512 b c)
    (ap (λ (t : Slot). place_of t len) is ∙ fixed_place slot len (length b)) one

pub primary_of_pair : (slot : Slot) (old new : Option (List ℕ)) → Both old new (OnlyPrimary slot) → Both old new (OnlyPair slot)
primary_of_pair slot None new one = tt
primary_of_pair slot (Some b) None one = absurd one
primary_of_pair slot (Some b) (Some c) one = primary_alone slot b c one

pub only_pair : (slot s : Slot) (size len : ℕ) (old middle new : Option (List ℕ)) → s ≡ backup_of slot → len ≡ size
    → IfSome old (λ b. length b ≡ size) → Both old middle (OnlyPrimary slot)
    → Both middle new (SameOutside (place_of s len) 512) → Both old new (OnlyPair slot)
only_pair slot s size len None middle new is same whole one two = tt
only_pair slot s size len (Some b) None new is same whole one two = absurd one
only_pair slot s size len (Some b) (Some c) None is same whole one two = absurd two
only_pair slot s size len (Some b) (Some c) (Some d) is same whole one two = record {
  between = c;
  primary = one;
  backup = subst (λ (n : ℕ). SameOutside n 512 c d)
      (ap (λ (t : Slot). place_of t len) is ∙ ap (place_of (backup_of slot)) (same ∙ sym whole)) two;
}

-- ---- what a crash may leave

pub in_primary : (slot s : Slot) (len : ℕ) (could : List ℕ → Type 0) → s ≡ primary_of slot
    → (c : List ℕ) → After could (SameOutside (place_of s len) 512) c → After could (OnlyPrimary slot) c
in_primary slot s len could is c after = (
  after.0,
  after.1,
  subst (λ (n : ℕ). SameOutside n 512 after.0 c)
      (ap (λ (t : Slot). place_of t len) is ∙ fixed_place slot len (length after.0)) after.2,
)

-- before the primary header is lasting
pub early : (slot : Slot) (k : Sealing) (f : Fields) (could : List ℕ → Type 0) (c : List ℕ)
    → After could (OnlyPrimary slot) c → After could (Changes slot k f) c
early slot k f could c after = (
  after.0,
  after.1,
  record {
    only = primary_alone slot after.0 c after.2;
    either = λ long. inl (backup_same slot after.0 c long after.2);
  },
)

-- and from then on
pub late : HeadersOpenAgain → (slot s : Slot) (k : Sealing) (f : Fields) (salt : List ℕ) (size len : ℕ)
    (old middle : Option (List ℕ)) (could between : List ℕ → Type 0) → 262656 ≤ size → length salt ≡ 64
    → IsReadable k salt f → s ≡ backup_of slot → len ≡ size → IfSome old (λ b. length b ≡ size)
    → HasWritten (primary_of slot) k salt f old middle
    → MatchOption old ⊥ (λ b. could b)
    → MatchOption middle ⊥ (λ b. (c : List ℕ) → between c ↔ c ≡ b)
    → (c : List ℕ) → After between (SameOutside (place_of s len) 512) c → After could (Changes slot k f) c
late law slot s k f salt size len None middle could between long salt_long r is same whole one stays lasting c after = absurd stays
late law slot s k f salt size len (Some b) None could between long salt_long r is same whole one stays lasting c after = absurd lasting
late law slot s k f salt size len (Some b) (Some m) could between long salt_long r is same whole one stays lasting c after = (
  b,
  stays,
  record {
    only = record {
      between = m;
      primary = primary;
      backup = subst (λ (n : ℕ). SameOutside (place_of (backup_of slot) n) 512 m c) same_long backup;
    };
    either = λ _. inr (carries law k f (primary_of slot) salt c salt_long r
        (primary_same slot m c (omega (arith, same_long, enough)) backup
        ∙ ap (header_at (primary_of slot)) one ∙ header_is k f (primary_of slot) salt b enough salt_long r));
  },
)
  where
    enough : 262656 ≤ length b
    enough = omega (arith, long, whole)

    same_long : length m ≡ length b
    same_long = ap length one ∙ same_length k f (primary_of slot) salt b enough salt_long r

    primary : OnlyPrimary slot b m
    primary = subst (OnlyPrimary slot b) (sym one) (slot_alone k f (primary_of slot) salt b enough salt_long r)

    was : after.0 ≡ m
    was = (lasting after.0).0 after.1

    backup : SameOutside (place_of (backup_of slot) (length m)) 512 m c
    backup =
        subst (λ (n : ℕ). SameOutside n 512 m c)
        (ap (λ (t : Slot). place_of t len) is ∙ ap (place_of (backup_of slot)) (same ∙ sym whole ∙ sym same_long))
        (subst (λ (x : List ℕ). SameOutside (place_of s len) 512 x c) was after.2)

-- ---- what then opens

-- what stays of a backup, and what a new primary header has of it
pub record Lasts (P : Slot → Sealing → Fields → List ℕ → Type 0) : Type 0 where
  pub long : (slot : Slot) (old : Sealing) (f : Fields) (d : List ℕ) → P slot old f d → 262656 ≤ length d
  pub same : (slot : Slot) (old : Sealing) (f : Fields) (d c : List ℕ) → length c ≡ length d
      → header_at slot c ≡ header_at slot d → P slot old f d → P slot old f c
  pub new : (slot : Slot) (old k : Sealing) (f : Fields) (d c : List ℕ) → length c ≡ length d
      → HasHeader c (primary_of slot) k f → P (backup_of slot) old f d → P (primary_of slot) k f c

pub fields_last : Lasts HasFields
fields_last = record {
  long = λ slot old f d there. there.long;
  same = λ slot old f d c long same there. record {
    long = omega (arith, long, there.long);
    header = ap (plain_by old.prf old.algorithm old.password old.pim) same ∙ there.header;
  };
  new = λ slot old k f d c long header there. record { long = omega (arith, long, there.long); header = header };
}

pub openings_last : Lasts IsOpen
openings_last = record {
  long = λ slot old f d there. long_enough (fields_of (plain old slot d)) slot (length d) there.valid.fields;
  same = λ slot old f d c long same there. record {
    header = ap (plain_by old.prf old.algorithm old.password old.pim) same ∙ there.header;
    valid = subst (λ (n : ℕ). Valid (plain old slot c) slot n) (sym long)
        (subst (λ (b : List ℕ). Valid b slot (length d))
        (sym (ap (plain_by old.prf old.algorithm old.password old.pim) same)) there.valid);
  };
  new = λ slot old k f d c long header there. record {
    header = header;
    valid = subst (λ (n : ℕ). Valid (plain k (primary_of slot) c) (primary_of slot) n) (sym long)
        (subst (λ (b : List ℕ). Valid b (primary_of slot) (length d)) (sym header)
        (valid_either (body_of f) slot (length d)
        (subst (λ (b : List ℕ). Valid b (backup_of slot) (length d)) there.header there.valid)));
  };
}
  where
    plain : Sealing → Slot → List ℕ → List ℕ
    plain k slot image = plain_by k.prf k.algorithm k.password k.pim (header_at slot image)

pub stays_in_either : (P : Slot → Sealing → Fields → List ℕ → Type 0) → Lasts P → (tells : Bool)
    (could left : List ℕ → Type 0) (slot : Slot) (k : Sealing) (f : Fields)
    → (tells ≡ true → (c : List ℕ) → left c → could c ⊎ After could (Changes slot k f) c)
    → EitherStays tells could left P slot k f
stays_in_either P lasts tells could left slot k f since modelled old at_start c is_left = elim (since modelled c is_left) [
  | inl there ↦ inl (at_start c there)
  | inr after ↦ after_step after
]
  where
    after_step : After could (Changes slot k f) c → P (backup_of slot) old f c ⊎ P (primary_of slot) k f c
    after_step after =
        let there : P (backup_of slot) old f after.0 = at_start after.0 after.1 in
        let step : Changes slot k f after.0 c = after.2 in
        let long : length c ≡ length after.0 = pair_length slot after.0 c step.only in
        elim (step.either (lasts.long (backup_of slot) old f after.0 there)) [
          | inl same ↦ inl (lasts.same (backup_of slot) old f after.0 c long same there)
          | inr new ↦ inr (lasts.new slot old k f after.0 c long new there)
        ]

pub stays_in_backup : (P : Slot → Sealing → Fields → List ℕ → Type 0) → Lasts P → (tells : Bool)
    (could left : List ℕ → Type 0) (slot : Slot) (f : Fields)
    → (tells ≡ true → (c : List ℕ) → left c → could c ⊎ After could (OnlyPrimary slot) c)
    → BackupStays tells could left P slot f
stays_in_backup P lasts tells could left slot f since modelled old at_start c is_left = elim (since modelled c is_left) [
  | inl there ↦ at_start c there
  | inr after ↦ after_step after
]
  where
    after_step : After could (OnlyPrimary slot) c → P (backup_of slot) old f c
    after_step after =
        let there : P (backup_of slot) old f after.0 = at_start after.0 after.1 in
        let only : OnlyPrimary slot after.0 c = after.2 in
        lasts.same (backup_of slot) old f after.0 c only.as_long
        (backup_same slot after.0 c (lasts.long (backup_of slot) old f after.0 there) only) there
