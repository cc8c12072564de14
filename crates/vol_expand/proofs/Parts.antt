-- Parts of an image that stay.
--
-- A write behind a part, a new length that isn't below its end, and a write of the standard header alone leave it.
-- What stays in one step and in the next stays in both.
use Rattle.std.proofs.Common.{◌≡◌, ◌≤◌, ◌⊎◌, ℕ, ◌+◌, ◌-◌, List, length, take, drop, Option, Some, None, refl, sym, ap, ◌∙◌, subst, inl, inr, arith}
use Rattle.std.specs.Prelude.{IfSome, Result, Ok, Err, OnOk, OnErr}
use Rattle.std.proofs.lemmas.List.{drop-drop, drop-take, take-take}
use Rattle.vc_outside.specs.Crash.{Relength, SharesPrefix}
use Rattle.vc_outside.specs.Told.{Both, resized, SameOutside, written}
use Rattle.vc_outside.proofs.Writes.{resized-outcome, written-outside}
use Rattle.vc_header.specs.declared.fields.Fields.{Fields}
use Rattle.volume_format.specs.Formatted.{Sealing}
use Rattle.vol_expand.specs.Stops.{Expands, Grows, HasNewBackup, PartsStay}

-- ---- one step

pub all_stay : (from until : ℕ) (b : List ℕ) → PartsStay from until b b
all_stay from until b at n low high inside = refl

-- before a write
pub stay_before : (place k until : ℕ) (b c : List ℕ) → until ≤ place → SameOutside place k b c → PartsStay 0 until b c
stay_before place k until b c below same at n low high inside =
    sym (drop-take at n c)
    ∙ ap (drop at) (sym (take-take (at + n) place c (omega (arith, high, below)))
    ∙ ap (take (at + n)) same.before ∙ take-take (at + n) place b (omega (arith, high, below)))
    ∙ drop-take at n b

-- behind a write
pub stay_behind : (place k from until : ℕ) (b c : List ℕ) → place + k ≤ from → SameOutside place k b c
    → PartsStay from until b c
stay_behind place k from until b c above same at n low high inside =
    let cut : place + k + (at - (place + k)) ≡ at = omega (arith, above, low) in
    ap (take n)
    (ap (λ (i : ℕ). drop i c) (sym cut)
    ∙ sym (drop-drop (at - (place + k)) (place + k) c)
    ∙ ap (drop (at - (place + k))) same.after
    ∙ drop-drop (at - (place + k)) (place + k) b
    ∙ ap (λ (i : ℕ). drop i b) cut)

pub stay_resized : (until n : ℕ) (b c : List ℕ) → until ≤ n → SharesPrefix n b c → PartsStay 0 until b c
stay_resized until n b c fits shares at m low high inside =
    sym (drop-take at m c)
    ∙ ap (drop at) (sym (take-take (at + m) (length b) c inside)
    ∙ ap (take (at + m)) shares.prefix ∙ take-take (at + m) n b (omega (arith, high, fits)))
    ∙ drop-take at m b

-- fewer parts
pub fewer : (from until low high : ℕ) (b c : List ℕ) → from ≤ low → high ≤ until → PartsStay from until b c
    → PartsStay low high b c
fewer from until low high b c above below stay at n from_low to_high inside =
    stay at n (omega (arith, above, from_low)) (omega (arith, below, to_high)) inside

-- ---- one step after another

pub stay_then : (from until : ℕ) (a b c : List ℕ) → (until ≤ length b) ⊎ (length b ≡ length a)
    → PartsStay from until a b → PartsStay from until b c → PartsStay from until a c
stay_then from until a b c long one two at n low high inside =
    two at n low high (elim long [
      | inl enough ↦ omega (arith, high, enough)
      | inr same ↦ omega (arith, inside, same)
    ]) ∙ one at n low high inside

pub still_long : (until size : ℕ) (a b : List ℕ) → until ≤ size → (length b ≡ length a) ⊎ (length b ≡ size)
    → (until ≤ length b) ⊎ (length b ≡ length a)
still_long until size a b fits long = elim long [
  | inl same ↦ inr same
  | inr new ↦ inl (omega (arith, fits, new))
]

pub long_then : (size : ℕ) (a b c : List ℕ) → (length b ≡ length a) ⊎ (length b ≡ size)
    → (length c ≡ length b) ⊎ (length c ≡ size) → (length c ≡ length a) ⊎ (length c ≡ size)
long_then size a b c one two = elim two [
  | inl same ↦ elim one [
    | inl first ↦ inl (same ∙ first)
    | inr new ↦ inr (same ∙ new)
  ]
  | inr new ↦ inr new
]

-- ---- the steps of the call

pub grows_not : (until size : ℕ) (b : List ℕ) → Grows until size b b
grows_not until size b = record { as_long = inl refl; parts = all_stay 0 until b }

pub grows_then : (until size : ℕ) (a b c : List ℕ) → until ≤ size → Grows until size a b → Grows until size b c
    → Grows until size a c
grows_then until size a b c fits one two = record {
  as_long = long_then size a b c one.as_long two.as_long;
  parts = stay_then 0 until a b c (still_long until size a b fits one.as_long) one.parts two.parts;
}

pub grows_by_write : (until size place k : ℕ) (b c : List ℕ) → until ≤ place → SameOutside place k b c → Grows until size b c
grows_by_write until size place k b c below same = record {
  as_long = inl same.as_long;
  parts = stay_before place k until b c below same;
}

pub grows_by_length : (until size : ℕ) (b c : List ℕ) → until ≤ size → Relength size b c → Grows until size b c
grows_by_length until size b c fits (inl same) = subst (Grows until size b) (sym same) (grows_not until size b)
grows_by_length until size b c fits (inr shares) = record {
  as_long = inr shares.as_long;
  parts = stay_resized until size b c fits shares;
}

module _ (k : Sealing) (f : Fields) where
  -- nothing more
  pub expands_not : (until size : ℕ) (b : List ℕ) → Expands until size k f b b
  expands_not until size b = record {
    as_long = inl refl;
    parts = all_stay 512 until b;
    either = inl (all_stay 0 512 b);
  }

  pub grows_only : (until size : ℕ) (b c : List ℕ) → 512 ≤ until → Grows until size b c → Expands until size k f b c
  grows_only until size b c header grows = record {
    as_long = grows.as_long;
    parts = fewer 0 until 512 until b c (omega arith) (omega arith) grows.parts;
    either = inl (fewer 0 until 0 512 b c (omega arith) header grows.parts);
  }

  pub grows_first : (until size : ℕ) (a b c : List ℕ) → 512 ≤ until → until ≤ size → Grows until size a b
      → Expands until size k f b c → Expands until size k f a c
  grows_first until size a b c header fits one two = record {
    as_long = long_then size a b c one.as_long two.as_long;
    parts = stay_then 512 until a b c (still_long until size a b fits one.as_long)
        (fewer 0 until 512 until a b (omega arith) (omega arith) one.parts) two.parts;
    either = elim two.either [
      | inl stay ↦ inl (stay_then 0 512 a b c (still_long 512 size a b (omega (arith, header, fits)) one.as_long)
          (fewer 0 until 0 512 a b (omega arith) header one.parts) stay)
      | inr new ↦ inr new
    ];
  }

  -- the standard header alone, after the new end
  pub header_last : (until size : ℕ) (a b c : List ℕ) → until ≤ size → length a ≡ size → length b ≡ size
      → PartsStay 0 until a b
      → SameOutside 0 512 b c → HasNewBackup k f size c → Expands until size k f a c
  header_last until size a b c fits long still one two new = record {
    as_long = inr new.as_long;
    parts = stay_then 512 until a b c (inr (still ∙ sym long))
        (fewer 0 until 512 until a b (omega arith) (omega arith) one)
        (stay_behind 0 512 512 until b c (omega arith) two);
    either = inr new;
  }

-- ---- the images of a store

by_contents : (old new : Option (List ℕ)) (at size : ℕ) (xs : List ℕ) → at + length xs ≤ size
    → IfSome old (λ b. length b ≡ size) → Both old new (λ b c. c ≡ written at xs b)
    → Both old new (SameOutside at (length xs))
by_contents None new at size xs inside whole done = tt
by_contents (Some b) None at size xs inside whole done = absurd done
by_contents (Some b) (Some c) at size xs inside whole done =
    subst (SameOutside at (length xs) b) (sym done) (written-outside at xs b (omega (arith, inside, whole)))

pub both_stay : (from until : ℕ) (old : Option (List ℕ)) → Both old old (PartsStay from until)
both_stay from until None = tt
both_stay from until (Some b) = all_stay from until b

pub both_before : (place k until : ℕ) (old new : Option (List ℕ)) → until ≤ place → Both old new (SameOutside place k)
    → Both old new (PartsStay 0 until)
both_before place k until None new below same = tt
both_before place k until (Some b) None below same = absurd same
both_before place k until (Some b) (Some c) below same = stay_before place k until b c below same

pub both_fewer : (from until low high : ℕ) (old new : Option (List ℕ)) → from ≤ low → high ≤ until
    → Both old new (PartsStay from until) → Both old new (PartsStay low high)
both_fewer from until low high None new above below stay = tt
both_fewer from until low high (Some b) None above below stay = absurd stay
both_fewer from until low high (Some b) (Some c) above below stay = fewer from until low high b c above below stay

-- the store's length is known
pub both_then : (from until size : ℕ) (old middle new : Option (List ℕ)) → until ≤ size
    → IfSome middle (λ b. length b ≡ size)
    → Both old middle (PartsStay from until) → Both middle new (PartsStay from until)
    → Both old new (PartsStay from until)
both_then from until size None middle new fits long one two = tt
both_then from until size (Some a) None new fits long one two = absurd one
both_then from until size (Some a) (Some b) None fits long one two = absurd two
both_then from until size (Some a) (Some b) (Some c) fits long one two =
    stay_then from until a b c (inl (omega (arith, fits, long))) one two

pub both_resized : (until n : ℕ) (old new : Option (List ℕ)) → until ≤ n → Both old new (λ b c. c ≡ resized n b)
    → Both old new (PartsStay 0 until)
both_resized until n None new fits done = tt
both_resized until n (Some b) None fits done = absurd done
both_resized until n (Some b) (Some c) fits done =
    (grows_by_length until n b c fits (subst (Relength n b) (sym done) (resized-outcome n b))).parts

-- a write changes only its range, if it succeeds and if it fails
pub only_range : {T E : Type 0} (r : Result T E) (old new : Option (List ℕ)) (at place n size : ℕ) (xs : List ℕ)
    → length xs ≡ n → at ≡ place → place + n ≤ size → IfSome old (λ b. length b ≡ size)
    → OnOk r (Both old new (λ b c. c ≡ written at xs b)) → OnErr r (Both old new (SameOutside at (length xs)))
    → Both old new (SameOutside place n)
only_range {T} {E} (Ok x) old new at place n size xs count same inside whole done outside =
    subst (λ (k : ℕ). Both old new (SameOutside k n)) same
    (subst (λ (k : ℕ). Both old new (SameOutside at k)) count
    (by_contents old new at size xs (omega (arith, count, same, inside)) whole done))
only_range {T} {E} (Err x) old new at place n size xs count same inside whole done outside =
    subst (λ (k : ℕ). Both old new (SameOutside k n)) same
    (subst (λ (k : ℕ). Both old new (SameOutside at k)) count outside)

-- what was written behind a part leaves it
pub stays_by_writing : (until at size : ℕ) (xs : List ℕ) (old new : Option (List ℕ)) → until ≤ at → at + length xs ≤ size
    → IfSome old (λ b. length b ≡ size) → Both old new (λ b c. c ≡ written at xs b) → Both old new (PartsStay 0 until)
stays_by_writing until at size xs old new below inside whole done =
    both_before at (length xs) until old new below (by_contents old new at size xs inside whole done)

-- what is said of the image in the end
pub in_the_end : (old middle new : Option (List ℕ)) (P : List ℕ → List ℕ → Type 0) (Q : List ℕ → Type 0) → Both old middle P
    → Both middle new (λ _ c. Q c) → Both old new (λ _ c. Q c)
in_the_end None middle new P Q one two = tt
in_the_end (Some a) None new P Q one two = absurd one
in_the_end (Some a) (Some b) None P Q one two = absurd two
in_the_end (Some a) (Some b) (Some c) P Q one two = two
