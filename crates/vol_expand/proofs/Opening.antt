-- What opens after a crash at any moment of the call: the old header or the new backup, to a volume that begins with
-- the old volume's bytes, and to an array that begins with the old one.
use Rattle.std.proofs.Common.{◌≡◌, ◌≤◌, ◌<◌, ◌⊎◌, ℕ, ◌+◌, ◌-◌, Bool, true, List, length, take, drop, Option, Some, None, sym, ap, ◌∙◌, subst, inl, inr, arith, length-drop}
use Rattle.std.specs.Prelude.{IfSome}
use Rattle.std.proofs.lemmas.List.{length-take, take-take}
use Rattle.vc_layout.specs.Layout.{IsContainerLength}
use Rattle.vc_layout.specs.declared.slots.Slot.TheVariants.{Standard, BackupStandard}
use Rattle.vc_header.specs.Header.{fields_of, Meets, Valid}
use Rattle.vc_header.specs.declared.fields.Fields.{Fields}
use Rattle.header_seal.specs.Sealed.{header_at, plain_by}
use Rattle.vc_layout.specs.declared.slots.Slot.{Slot}
use Rattle.volume_format.specs.Formatted.{Sealing}
use Rattle.header_change.specs.Moments.{After}
use Rattle.vol_expand.specs.Expanded.{expanded_fields}
use Rattle.vol_expand.specs.Stops.{Carries, Expands, HasNewBackup, Holds, IsOpened, IsRead, Keeps, OldOrNew, volume_of}
use Rattle.vol_expand.proofs.Arrays.{keeps, length-volume}
use Rattle.vol_expand.proofs.Growing.{ends_before, long_enough, some_bytes, Expandable}

-- what stays of the standard header, and what the new backup has of it
pub record Lasts (P : Slot → Sealing → Fields → List ℕ → Type 0) (f : Fields) (size : ℕ) : Type 0 where
  pub same : (old : Sealing) (d c : List ℕ) → (length c ≡ length d) ⊎ (length c ≡ size)
      → header_at Standard c ≡ header_at Standard d → P Standard old f d → P Standard old f c
  pub new : (k : Sealing) (c : List ℕ) → HasNewBackup k (expanded_fields size f) size c
      → P BackupStandard k (expanded_fields size f) c

pub carried_lasts : (f : Fields) (size : ℕ) → Lasts Carries f size
carried_lasts f size = record {
  same = λ old d c _ same there. ap (plain_by old.prf old.algorithm old.password old.pim) same ∙ there;
  new = λ k c there. there.carried;
}

-- a body that reads as fields which meet the rules is valid
valid_again : (x y : List ℕ) (f : Fields) (m n : ℕ) → y ≡ x → fields_of x ≡ f → Meets f Standard n
    → Valid x Standard m → Valid y Standard n
valid_again x y f m n same fields meets v =
    subst (λ (z : List ℕ). Valid z Standard n) (sym same) (record {
      magic = v.magic;
      version = v.version;
      keys_checksum = v.keys_checksum;
      fields_checksum = v.fields_checksum;
      fields = subst (λ (g : Fields). Meets g Standard n) (sym fields) meets;
    })

-- a container stays one, or gets the new size
container : (size : ℕ) (d c : List ℕ) → IsContainerLength size → (length c ≡ length d) ⊎ (length c ≡ size)
    → IsContainerLength (length d) → IsContainerLength (length c)
container size d c can long is = elim long [
  | inl same ↦ subst IsContainerLength (sym same) is
  | inr new ↦ subst IsContainerLength (sym new) can
]

pub fits_container : (f : Fields) (len size : ℕ) → Expandable len size f.sector → Meets f Standard len
    → IsContainerLength size
fits_container f len size can meets = record {
  shortest = omega (arith, long_enough f len meets, can.longer);
  longest = omega (arith, can.longest);
}

pub opened_lasts : (f : Fields) (size : ℕ) → IsContainerLength size → Meets f Standard size → Lasts IsOpened f size
opened_lasts f size can meets = record {
  same = λ old d c long same there. record {
    long = container size d c can long there.long;
    read = stays old d c long same there.read;
  };
  new = λ k c there. record {
    long = subst IsContainerLength (sym there.as_long) can;
    read = there.read;
  };
}
  where
    stays : (old : Sealing) (d c : List ℕ) → (length c ≡ length d) ⊎ (length c ≡ size)
        → header_at Standard c ≡ header_at Standard d → IsRead Standard old f d → IsRead Standard old f c
    stays old d c long same there =
        let body : plain_by old.prf old.algorithm old.password old.pim (header_at Standard c)
        ≡ plain_by old.prf old.algorithm old.password old.pim (header_at Standard d)
        = ap (plain_by old.prf old.algorithm old.password old.pim) same in
        record {
          valid = elim long [
            | inl kept ↦ subst (λ (n : ℕ). Valid (plain_by old.prf old.algorithm old.password old.pim (header_at Standard c))
                Standard n) (sym kept)
                (subst (λ (x : List ℕ). Valid x Standard (length d)) (sym body) there.valid)
            | inr new ↦ subst (λ (n : ℕ). Valid (plain_by old.prf old.algorithm old.password old.pim (header_at Standard c))
                Standard n) (sym new)
                (valid_again (plain_by old.prf old.algorithm old.password old.pim (header_at Standard d))
                (plain_by old.prf old.algorithm old.password old.pim (header_at Standard c)) f (length d) size body
                there.fields meets there.valid)
          ];
          fields = ap fields_of body ∙ there.fields;
        }

-- ---- the volume's bytes

-- a part of n bytes that has n bytes at its start lies in the list
part_inside : (n at : ℕ) (xs d : List ℕ) → length xs ≡ n → 0 < n → take (length xs) (take n (drop at d)) ≡ xs
    → at + n ≤ length d
part_inside n at xs d long some is =
    omega (
      arith,
      long,
      some,
      ap length is,
      length-take (length xs) (take n (drop at d)),
      length-take n (drop at d),
      length-drop at d,
    )

module _ (P : Slot → Sealing → Fields → List ℕ → Type 0) (f : Fields) (len size : ℕ) (lasts : Lasts P f size)
    (can : Expandable len size f.sector) (meets : Meets f Standard len) where
  module _ (b d c : List ℕ) (k old : Sealing) (whole : length b ≡ len)
      (there : Holds P Standard old f (volume_of f b) d)
      (step : Expands (len - 131072) size k (expanded_fields size f) d c) where
    inside : f.start + f.volume_size ≤ length d
    inside =
        part_inside f.volume_size f.start (volume_of f b) d (length-volume f len b meets whole) (some_bytes f len meets)
        there.begins

    same : volume_of f c ≡ volume_of f d
    same = step.parts f.start f.volume_size (omega (arith, meets.behind_headers)) (ends_before f len meets) inside

    still_begins : take (length (volume_of f b)) (volume_of f c) ≡ volume_of f b
    still_begins = ap (take (length (volume_of f b))) same ∙ there.begins

    -- the longer volume begins with the old one
    begins_new : take (length (volume_of f b)) (volume_of (expanded_fields size f) c) ≡ volume_of f b
    begins_new =
        let fits : length (volume_of f b) ≤ size - 131072 - f.start
        = omega (arith, length-volume f len b meets whole, ends_before f len meets, can.longer) in
        let fits_old : length (volume_of f b) ≤ f.volume_size = omega (arith, length-volume f len b meets whole) in
        take-take (length (volume_of f b)) (size - 131072 - f.start) (drop f.start c) fits
        ∙ sym (take-take (length (volume_of f b)) f.volume_size (drop f.start c) fits_old)
        ∙ still_begins

    pub after_step : Holds P Standard old f (volume_of f b) c
        ⊎ Holds P BackupStandard k (expanded_fields size f) (volume_of f b) c
    after_step = elim step.either [
      | inl stay ↦ inl (record {
        header = lasts.same old d c step.as_long
            (stay 0 512 (omega arith) (omega arith) (omega (arith, inside, meets.behind_headers))) there.header;
        begins = still_begins;
      })
      | inr new ↦ inr (record {
        header = lasts.new k c new;
        begins = begins_new;
      })
    ]

  -- the same of the arrays
  with_arrays : (b c : List ℕ) (k old : Sealing) → length b ≡ len
      → Holds P Standard old f (volume_of f b) c ⊎ Holds P BackupStandard k (expanded_fields size f) (volume_of f b) c
      → Keeps P Standard old f f b c ⊎ Keeps P BackupStandard k f (expanded_fields size f) b c
  with_arrays b c k old whole holds = elim holds [
    | inl stay ↦ inl (keeps P Standard old f f.volume_size f.encrypted len b c meets whole (omega arith) stay)
    | inr new ↦ inr (keeps P BackupStandard k f (size - 131072 - f.start) (size - 131072 - f.start) len b c meets whole
        (omega (arith, ends_before f len meets, can.longer)) new)
  ]

  pub old_or_new : (k : Sealing) (tells : Bool) (image : Option (List ℕ)) (could left : List ℕ → Type 0)
      → IfSome image (λ b. length b ≡ len)
      → (tells ≡ true → (c : List ℕ) → left c → could c ⊎ After could
      (Expands (len - 131072) size k (expanded_fields size f)) c)
      → OldOrNew tells image could left P k f size
  old_or_new k tells None could left whole since modelled = tt
  old_or_new k tells (Some b) could left whole since modelled = λ old at_start c is_left.
      with_arrays b c k old whole (elim (since modelled c is_left) [
        | inl there ↦ inl (at_start c there)
        | inr after ↦ after_step b after.0 c k old whole (at_start after.0 after.1) after.2
      ])

-- a call that did nothing
pub still_old : (P : Slot → Sealing → Fields → List ℕ → Type 0) (k : Sealing) (f : Fields) (len size : ℕ) (tells : Bool)
    (image : Option (List ℕ)) (could left : List ℕ → Type 0) → Meets f Standard len → IfSome image (λ b. length b ≡ len)
    → (tells ≡ true → (c : List ℕ) → left c → could c)
    → OldOrNew tells image could left P k f size
still_old P k f len size tells None could left meets whole only modelled = tt
still_old P k f len size tells (Some b) could left meets whole only modelled = λ old at_start c is_left.
    inl (keeps P Standard old f f.volume_size f.encrypted len b c meets whole (omega arith)
    (at_start c (only modelled c is_left)))
