-- What was taken of a source is a head, or shows that none is there.
use Rattle.std.proofs.Common.{◌≡◌, ◌≤◌, ◌<◌, ℕ, zero, suc, ◌+◌, ◌==◌, Bool, true, false, List, ◌++◌, length, length-append, take, drop, Option, Some, None, IfSome, Result, Err, inl, inr, refl, sym, ap, ◌∙◌, subst, arith}
use Rattle.std.specs.Prelude.{◌↔◌, is_ok, IsNone, IsOk, IsTrue}
use Rattle.std.proofs.lemmas.List.{append-nil, drop_all, length-drop, length-take-le, take-append-drop, take-append-le, take_all}
use Rattle.std.proofs.lemmas.Bool.{eqb-false, eqb-true, false≢true}
use borrow.Rule.Slice.PartMut.{put_mid}
use Rattle.nbd_wire.proofs.AnsweredOnward.{unread-start}
use Rattle.nbd_wire.specs.Frames.{over, short, wrong, Start, start}
use Rattle.nbd_wire.specs.Wire.{has_magic}
use Rattle.nbd_wire.specs.declared.end.End.{End}
use Rattle.nbd_wire.specs.declared.end.End.TheVariants as end
use Rattle.vc_outside.specs.Told.{Shrinks}
use Rattle.nbd_session.specs.declared.input.Stop.{Stop}
use Rattle.nbd_session.specs.declared.input.Stop.TheVariants.{Ended, Failed}
use Rattle.nbd_session.specs.Taken.{end_of, NoRequest, OnlyEnds}
use Rattle.nbd_session.proofs.Starts.{has_magic-append, start_bad, start_cut, start_over, start_short, start_wrong}
use Rattle.nbd_session.proofs.Streams.{ended_on, shrinks_twice}

-- four bytes are there, and are no magic
whole_bad : (a b : Option (List ℕ)) (taken : List ℕ) (how : End) → Shrinks a b taken → 4 ≤ length taken → has_magic taken ≡ false
    → how ≡ end.BadMagic (take 4 taken) → IfSome a (λ bytes. ¬ (how ≡ end.ReadFault) → OnlyEnds (start bytes) how)
whole_bad None b taken how input size bad is = tt
whole_bad (Some bytes) None taken how input size bad is = absurd input
whole_bad (Some bytes) (Some rest) taken how input size bad is = λ known.
    subst (λ (s : Start). OnlyEnds s how) (sym (ap start input ∙ start_bad taken rest size bad)) (inl is)

pub bad_bytes : (a b : Option (List ℕ)) (taken : List ℕ) (how : End) → Shrinks a b taken → 4 ≤ length taken → has_magic taken ≡ false
    → how ≡ end.BadMagic (take 4 taken) → NoRequest a b how
bad_bytes a b taken how input size bad is = record {
  taken = taken;
  input = input;
  alone = subst (λ (s : Start). OnlyEnds s how) (sym (start_wrong taken size bad)) (inl is);
  whole = whole_bad a b taken how input size bad is;
  unread = unread-start taken (wrong (take 4 taken)) (start_wrong taken size bad);
}

-- the source gave all that it had
whole_all : (a : Option (List ℕ)) (taken : List ℕ) (s : Start) (how : End) → start taken ≡ s → OnlyEnds s how → IfSome a (λ s. s ≡ taken)
    → IfSome a (λ bytes. ¬ (how ≡ end.ReadFault) → OnlyEnds (start bytes) how)
whole_all None taken s how is only all = tt
whole_all (Some bytes) taken s how is only all = λ known. subst (λ (s : Start). OnlyEnds s how) (sym (ap start all ∙ is)) only

whole_fault : (a : Option (List ℕ)) (how : End) → how ≡ end.ReadFault → IfSome a (λ bytes. ¬ (how ≡ end.ReadFault) → OnlyEnds (start bytes) how)
whole_fault None how is = tt
whole_fault (Some bytes) how is = λ known. absurd (known is)

pub short_bytes : (a b : Option (List ℕ)) (taken : List ℕ) (stop : Stop) (how : End) → Shrinks a b taken → start taken ≡ short
    → how ≡ end_of stop false → (stop ≡ Ended → IfSome a (λ s. s ≡ taken)) → NoRequest a b how
short_bytes a b taken Ended how input is ends all = record {
  taken = taken;
  input = input;
  alone = subst (λ (s : Start). OnlyEnds s how) (sym is) (inl ends);
  whole = whole_all a taken short how is (inl ends) (all refl);
  unread = unread-start taken short is;
}
short_bytes a b taken Failed how input is ends all = record {
  taken = taken;
  input = input;
  alone = subst (λ (s : Start). OnlyEnds s how) (sym is) (inr ends);
  whole = whole_fault a how ends;
  unread = unread-start taken short is;
}

-- the source stopped between two requests
over_bytes : (a b : Option (List ℕ)) (taken : List ℕ) (stop : Stop) (how : End) → Shrinks a b taken → start taken ≡ over
    → how ≡ end_of stop true → (stop ≡ Ended → IfSome a (λ s. s ≡ taken)) → NoRequest a b how
over_bytes a b taken Ended how input is ends all = record {
  taken = taken;
  input = input;
  alone = subst (λ (s : Start). OnlyEnds s how) (sym is) (inl ends);
  whole = whole_all a taken over how is (inl ends) (all refl);
  unread = unread-start taken over is;
}
over_bytes a b taken Failed how input is ends all = record {
  taken = taken;
  input = input;
  alone = subst (λ (s : Start). OnlyEnds s how) (sym is) (inr ends);
  whole = whole_fault a how ends;
  unread = unread-start taken over is;
}

-- the source stopped within the first four bytes
positive : (n : ℕ) → ¬ (n ≡ 0) → 0 < n
positive zero isnt = absurd (isnt refl)
positive (suc n) isnt = omega arith

early_by : (a b : Option (List ℕ)) (taken : List ℕ) (stop : Stop) (how : End) (none : Bool) → Shrinks a b taken → (length taken == 0) ≡ none
    → length taken < 4 → how ≡ end_of stop none → (stop ≡ Ended → IfSome a (λ s. s ≡ taken)) → NoRequest a b how
early_by a b taken stop how true input is few ends all = over_bytes a b taken stop how input (start_over taken (eqb-true (length taken) 0 is)) ends all
early_by a b taken stop how false input is few ends all =
    short_bytes a b taken stop how input (start_cut taken (positive (length taken) (eqb-false (length taken) 0 is)) few) ends all

pub early_bytes : (a b : Option (List ℕ)) (k : ℕ) (buf : List ℕ) (stop : Stop) (how : End) → Shrinks a b (take k buf) → k ≤ length buf
    → k < 4 → how ≡ end_of stop (k == 0) → (stop ≡ Ended → IfSome a (λ s. s ≡ take k buf)) → NoRequest a b how
early_bytes a b k buf stop how input within few ends all =
    early_by a b (take k buf) stop how (k == 0) input (ap (λ (n : ℕ). n == 0) (length-take-le k buf within))
    (omega (arith, few, length-take-le k buf within)) ends all

-- the first k bytes of a buffer have its magic
pub magic-take : (k : ℕ) (buf : List ℕ) → k ≤ length buf → 4 ≤ k → has_magic buf ≡ has_magic (take k buf)
magic-take k buf within least =
    ap has_magic (sym (take-append-drop k buf)) ∙ has_magic-append (take k buf) (drop k buf) (omega (arith, length-take-le k buf within, least))

pub four-take : (k : ℕ) (buf : List ℕ) → k ≤ length buf → 4 ≤ k → take 4 buf ≡ take 4 (take k buf)
four-take k buf within least =
    ap (take 4) (sym (take-append-drop k buf)) ∙ take-append-le 4 (take k buf) (drop k buf) (omega (arith, length-take-le k buf within, least))

-- a head from two parts
pub filled : (k m j : ℕ) (buf part : List ℕ) → length buf ≤ k + m → length part ≤ j → take k buf ++ take j part ≡ put_mid k m buf part
filled k m j buf part room all =
    ap (λ (p : List ℕ). take k buf ++ p) (take_all j part all ∙ sym (append-nil part))
    ∙ ap (λ (p : List ℕ). take k buf ++ (part ++ p)) (sym (drop_all m (drop k buf) (omega (arith, room, length-drop k buf))))

pub no_ok : {T E : Type 0} (b : Bool) (r : Result T E) (e : E) → (IsOk r ↔ IsTrue b) → r ≡ Err e → b ≡ false
no_ok false r e same is = refl
no_ok true r e same is = absurd (false≢true (sym (ap is_ok is) ∙ same.1 refl))

pub none_by : {A : Type 0} (o : Option A) → ((x : A) → o ≡ Some x → ⊥) → IsNone o
none_by None not_some = refl
none_by (Some x) not_some = absurd (not_some x refl)

-- a buffer of 28 bytes, of which the first part has k bytes and the second j
module _ (a b c : Option (List ℕ)) (k j : ℕ) (buf part : List ℕ) (f : Shrinks a b (take k buf)) (g : Shrinks b c (take j part))
    (size : length buf ≡ 28) (within : k ≤ 28) (least : 4 ≤ k) (here : j ≤ length part) where
  length-parts : length (take k buf ++ take j part) ≡ k + j
  length-parts = length-append (take k buf) (take j part)
      ∙ ap (λ (n : ℕ). n + length (take j part)) (length-take-le k buf (omega (arith, size, within))) ∙ ap (λ (n : ℕ). k + n) (length-take-le j part here)

  pub stopped : (stop : Stop) (how : End) → has_magic buf ≡ true → k + j < 28 → how ≡ end_of stop false
      → (stop ≡ Ended → IfSome b (λ s. s ≡ take j part)) → NoRequest a c how
  stopped stop how magic few ends all =
      let taken : List ℕ = take k buf ++ take j part in
      let first : 4 ≤ length (take k buf) = omega (arith, length-take-le k buf (omega (arith, size, within)), least) in
      short_bytes a c taken stop how (shrinks_twice a b c (take k buf) (take j part) f g)
      (start_short taken (omega (arith, length-parts, least))
      (has_magic-append (take k buf) (take j part) first ∙ sym (magic-take k buf (omega (arith, size, within)) least) ∙ magic)
      (omega (arith, length-parts, few)))
      ends (λ is. ended_on a b (take k buf) (take j part) f (all is))

  module _ (m : ℕ) (room : 28 ≤ k + m) (all : length part ≤ j) (whole : k + j ≡ 28) where
    pub whole_input : Shrinks a c (put_mid k m buf part)
    whole_input = subst (λ (p : List ℕ). Shrinks a c p) (filled k m j buf part (omega (arith, size, room)) all) (shrinks_twice a b c (take k buf) (take j part) f g)

    pub whole_size : length (put_mid k m buf part) ≡ 28
    whole_size = sym (ap length (filled k m j buf part (omega (arith, size, room)) all)) ∙ length-parts ∙ whole
