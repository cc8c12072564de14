-- A write ends.
--
-- Until then the array had its data in its range, whatever the image was. Now the array is the image's there. If all
-- fragments were stored, that is the same. If some were lost, the entry has what the image deciphers to.
use Rattle.std.proofs.Common.{◌≡◌, ◌≢◌, ◌≤◌, ◌<◌, inl, inr, ℕ, suc, ◌+◌, ◌^◌, mul-le-mul_left, ◌*◌, ◌/◌, ◌-◌, true, false, List, [], ◌∷◌, ◌++◌, Option, Some, None, get_or, length, refl, sym, ap, subst, ◌∙◌, arith, append_assoc}
use Rattle.std.specs.Prelude.{map, slice_get, IfSome}
use Rattle.std.specs.List.{All, AllPairs, Contains}
use Rattle.std.proofs.lemmas.Bool.Decides.{leb_tells}
use Rattle.std.proofs.lemmas.List.{map-append}
use Rattle.std.proofs.lemmas.List.Elements.{All-append, All-cons}
use Rattle.range_base.specs.Range.{IsInRange, Overlap}
use Rattle.vc_base.specs.Bytes.{IsBytes}
use Rattle.vc_base.proofs.Bytes.{IsBytes-piece}
use Rattle.vc_base.proofs.Pieces.{length-joined, piece-joined}
use Rattle.vc_layout.specs.declared.geometry.Geometry.{Geometry}
use Rattle.vc_outside.specs.Told.{Both}
use Rattle.vc_outside.specs.declared.store.Store.{Ghosts as StoreGhosts}
use Rattle.cipher_base.specs.declared.unit.UnitCipher.{Ghosts as CipherGhosts}
use Rattle.sector_model.specs.Array.{Array, Holds, sectors_of, unit, units_of, Volume}
use Rattle.sector_model.specs.History.{after, array_with, frozen_with, flushed_with, HasName, is_frozen, is_flushed, open_with, open_writes, without, Write}
use Rattle.sector_model.specs.Legal.{IsOpen, MeetsContents, MeetsOrder}
use Rattle.sector_model.specs.Marks.{AreMarks, marks_in, marks_of}
use Rattle.sector_model.specs.Plain.{entry}
use Rattle.sector_model.specs.declared.entry.Entry.{Entry}
use Rattle.sector_model.specs.declared.entry.Event.{Event}
use Rattle.sector_model.specs.declared.entry.Event.TheVariants.{Done, Lost}
use Rattle.sector_model.specs.declared.entry.FaultMark.{FaultMark}
use Rattle.sector_model.proofs.OneMore.{after-push, is_flushed-push, is_frozen-push, IsOrdered-push, IsTold-push, marks_in-push, open_writes-push}
use Rattle.io_core.specs.Closings.{entries_of, data_in, spoilt_of}
use Rattle.io_core.specs.Laws.StateOf.{answer_to, state_of}
use Rattle.sector_model.proofs.Overwritten.{whole_units}
use Rattle.io_core.specs.State.{IsPlaced, IsPlacedWrite, State, write_of}
use Rattle.io_core.specs.Sound.{Contents, marks_of_parts, marks_pending, plain, Sound, StoredHolds, volume}
use Rattle.io_core.specs.declared.part.PartState.{PartState}
use Rattle.io_core.specs.declared.part.PartState.TheVariants.{Waiting, Stored, Spoilt}
use Rattle.io_core.specs.declared.prepared.Prepared.{Prepared}
use Rattle.io_core.proofs.Apart.{laid_inside, laid_outside, units_of_sectors}
use Rattle.io_core.proofs.Known.{both_weaker}
use Rattle.io_core.proofs.Elements.{at_element, element_of_either, element_right, first_element, the_element}
use Rattle.io_core.proofs.EndedMarks.{marks_moved, no_marks, some_spoilt, spoilt_marks, spoilt_rising, spoilt_within, stored_at, stored_or_listed, without_split}
use Rattle.io_core.proofs.OneMoreMark.{all_left, all_right}
use Rattle.io_core.proofs.OpenWrite.{all_placed, all_apart, is_open, IsBeside, lower_beside, mine, opens_are, upper_beside}
use Rattle.io_core.proofs.Replaced.{pairs_above, pairs_below, pairs_without}

marks_of_all : (ps : List Prepared) (rest : List Prepared) → marks_pending (ps ++ rest) ≡ marks_pending ps ++ marks_pending rest
marks_of_all [] rest = refl
marks_of_all (q ∷ ps) rest = ap (λ x. marks_of_parts q.parts.items ++ x) (marks_of_all ps rest)
    ∙ sym (append_assoc (marks_of_parts q.parts.items) (marks_pending ps) (marks_pending rest))

-- what the end of a write makes of the array: in the write's range it is the image's
record Ends (v : Volume) (w : Write) (e : Event) (a b : Array) : Type 0 where
  inside : (k : ℕ) → k < units_of w.bytes → array_with v e a (v.per_sector * w.first + k) ≡ b (v.per_sector * w.first + k)
  outside : (u : ℕ) → ¬ IsInRange (v.per_sector * w.first) (units_of w.bytes) u → array_with v e a u ≡ a u

module _ {S C : Type 0} (store : StoreGhosts S) (cipher : CipherGhosts C) (base : State S C) (h : List Entry) (s : State S C)
    (sound : Sound store cipher base h s) (p : Prepared) (below above : List Prepared) (was : s.pending ≡ below ++ p ∷ above)
    (names : AllPairs (λ w x. ¬ HasName w.caller w.number x) (map write_of s.pending)) where
  abbrev v : Volume
  v = volume base

  abbrev t : State S C
  t = record s { pending = below ++ above }

  abbrev lower : List Write
  lower = map write_of below

  abbrev upper : List Write
  upper = map write_of above

  abbrev opening : List ℕ → Array
  opening old = plain store cipher base.cipher base.geometry old

  opens : open_writes h ≡ lower ++ write_of p ∷ upper
  opens = opens_are store cipher base h s sound p below above was

  names_here : AllPairs (λ w x. ¬ HasName w.caller w.number x) (lower ++ write_of p ∷ upper)
  names_here = subst (AllPairs (λ w x. ¬ HasName w.caller w.number x)) (ap (map write_of) was ∙ map-append write_of below (p ∷ above)) names

  others_named : All (λ x. ¬ HasName p.caller p.number x) lower
  others_named k d within named =
      pairs_below (λ w x. ¬ HasName w.caller w.number x) lower upper (write_of p) names_here k d within (sym named.0, sym named.1)

  left : without p.caller p.number (open_writes h) ≡ lower ++ upper
  left = ap (without p.caller p.number) opens ∙ without_split p.caller p.number lower upper (write_of p) others_named (refl, refl)

  module _ (e : Event) (ends : (ws : List Write) → open_with p.caller p.number e ws ≡ without p.caller p.number ws) where
    abbrev x : Entry
    x = entry p.caller p.number e

    opened : open_writes (h ++ x ∷ []) ≡ lower ++ upper
    opened = open_writes-push h x ∙ ends (open_writes h) ∙ left

    contents_closed : (old new : List ℕ)
        → Ends v (write_of p) e (after v (opening old) h) (opening new)
        → MeetsContents v (opening old) h p.caller p.number e
        → Contents store cipher base h s old new → Contents store cipher base (h ++ x ∷ []) t old new
    contents_closed old new at told c =
        let a : Array = after v (opening old) h in
        let b : Array = array_with v e a in
        let array : b ≡ after v (opening old) (h ++ x ∷ []) = sym (after-push v (opening old) h x) in
        let H : Write → Type 0 = λ w. Holds v w.first w.bytes a in
        let each : All H (lower ++ write_of p ∷ upper) = subst (All H) opens c.under in
        let keeps : (w : Write) → IsBeside store cipher base h s sound p below above was w → H w → Holds v w.first w.bytes b
        = λ w beside holds k inside. at.outside (v.per_sector * w.first + k) (beside k inside) ∙ holds k inside in
        let stored : All (StoredHolds store cipher base.cipher base.geometry new) (below ++ p ∷ above)
        = subst (All (StoredHolds store cipher base.cipher base.geometry new)) was c.stored in
        record {
          told = IsTold-push v (opening old) h x c.told told;
          under = subst (λ ws. All (λ w. Holds v w.first w.bytes (after v (opening old) (h ++ x ∷ []))) ws) (sym opened)
              (subst (λ f. All (λ w. Holds v w.first w.bytes f) (lower ++ upper)) array
              (All-append (λ w. Holds v w.first w.bytes b) lower upper
              (λ k d within. keeps (get_or lower k d) (lower_beside store cipher base h s sound p below above was k d within) (all_left H lower (write_of p ∷ upper) each k d within))
              (λ k d within. keeps (get_or upper k d) (upper_beside store cipher base h s sound p below above was k d within) (all_right H lower (write_of p ∷ upper) each (suc k) d (omega arith)))));
          clear = λ u none. clear u none array a b at c;
          stored = All-append (StoredHolds store cipher base.cipher base.geometry new) below above
              (all_left (StoredHolds store cipher base.cipher base.geometry new) below (p ∷ above) stored)
              (λ k d within. all_right (StoredHolds store cipher base.cipher base.geometry new) below (p ∷ above) stored (suc k) d (omega arith));
          elsewhere = c.elsewhere;
        }
      where
        clear : (u : ℕ) → All (λ w. ¬ IsInRange (base.geometry.sector / 512 * w.first) (units_of w.bytes) u) (open_writes (h ++ x ∷ []))
            → array_with v e (after v (opening old) h) ≡ after v (opening old) (h ++ x ∷ [])
            → (a b : Array) → Ends v (write_of p) e (after v (opening old) h) (opening new)
            → Contents store cipher base h s old new
            → opening new u ≡ after v (opening old) (h ++ x ∷ []) u
        clear u none array a b at c = elim (leb_tells (v.per_sector * p.first) u) [
          | inr (q, less) ↦ outside (λ here. absurd (omega (arith, here.from)))
          | inl (q, from) ↦ elim (leb_tells (suc u) (v.per_sector * p.first + units_of p.bytes.items)) [
            | inr (r, past) ↦ outside (λ here. absurd (omega (arith, here.below)))
            | inl (r, within) ↦
                let k : ℕ = u - v.per_sector * p.first in
                let place : v.per_sector * p.first + k ≡ u = omega arith in
                sym (subst (λ (n : ℕ). array_with v e (after v (opening old) h) n ≡ opening new n) place (at.inside k (omega arith)))
                ∙ ap (λ (f : Array). f u) array
          ]
        ]
          where
            P : Write → Type 0
            P w = ¬ IsInRange (base.geometry.sector / 512 * w.first) (units_of w.bytes) u

            outside : ¬ IsInRange (v.per_sector * p.first) (units_of p.bytes.items) u → opening new u ≡ after v (opening old) (h ++ x ∷ []) u
            outside out =
                let both : All P (lower ++ upper) = subst (All P) opened none in
                c.clear u (subst (All P) (sym opens) (All-append P lower (write_of p ∷ upper) (all_left P lower upper both)
                (All-cons P (write_of p) upper out (all_right P lower upper both))))
                ∙ sym (at.outside u out) ∙ ap (λ (f : Array). f u) array

    sound_closed : MeetsOrder v h p.caller p.number e → marks_of e ≡ marks_of_parts p.parts.items
        → frozen_with e (is_frozen h) ≡ is_frozen h → flushed_with e (is_flushed h) ≡ false
        → Both (store.image base.disk) (store.image s.disk) (Contents store cipher base (h ++ x ∷ []) t)
        → Sound store cipher base (h ++ x ∷ []) t
    sound_closed order marks frozen flushed contents =
        let R : Write → Write → Type 0 = λ y z. ¬ Overlap y.first (sectors_of v y.bytes) z.first (sectors_of v z.bytes) in
        let all : All (IsPlacedWrite v) (lower ++ write_of p ∷ upper) = all_placed store cipher base h s sound p below above was in
        record {
          ordered = IsOrdered-push v h x sound.ordered order;
          frozen = sound.frozen ∙ sym frozen ∙ sym (is_frozen-push h x);
          writes = map-append write_of below above ∙ sym opened;
          placed = subst (All (IsPlacedWrite v)) (sym opened) (All-append (IsPlacedWrite v) lower upper
              (all_left (IsPlacedWrite v) lower (write_of p ∷ upper) all)
              (λ k d within. all_right (IsPlacedWrite v) lower (write_of p ∷ upper) all (suc k) d (omega arith)));
          apart = subst (AllPairs R) (sym opened) (pairs_without R lower upper (write_of p) (all_apart store cipher base h s sound p below above was));
          cipher_same = sound.cipher_same;
          geometry_same = sound.geometry_same;
          range_same = sound.range_same;
          capacity_same = sound.capacity_same;
          size_same = sound.size_same;
          later = sound.later;
          marks = subst (AreMarks (store.faults base.disk) (store.faults s.disk))
              (ap (λ (l : List FaultMark). (marks_in h ++ l) ++ (marks_pending below ++ marks_pending above)) (sym marks)
              ∙ ap (λ (l : List FaultMark). l ++ (marks_pending below ++ marks_pending above)) (sym (marks_in-push h x))
              ∙ ap (λ (l : List FaultMark). marks_in (h ++ x ∷ []) ++ l) (sym (marks_of_all below above)))
              (marks_moved (store.faults base.disk) (store.faults s.disk) (marks_in h) (marks_pending below) (marks_of_parts p.parts.items) (marks_pending above)
              (subst (λ l. AreMarks (store.faults base.disk) (store.faults s.disk) (marks_in h ++ l)) (ap marks_pending was ∙ marks_of_all below (p ∷ above)) sound.marks));
          contents = contents;
          lasting = λ is_so none. let never : false ≡ true = sym (is_flushed-push h x ∙ flushed) ∙ is_so in cc;
        }

  -- it is an open write, and the only one of its name
  the_open : IsOpen h p.caller p.number p.first (write_of p)
  the_open = record { put = is_open store cipher base h s sound p below above was; name = (refl, refl); place = refl }

  only_one : (w : Write) → Contains (open_writes h) w → HasName p.caller p.number w → write_of p ≡ w
  only_one w has named = elim (element_of_either lower (write_of p ∷ upper) w (subst (λ l. Contains l w) opens has)) [
    | inl c ↦ absurd (at_element (λ y. ¬ HasName p.caller p.number y) lower w others_named c named)
    | inr c ↦ elim (element_of_either (write_of p ∷ []) upper w c) [
      | inl d ↦ the_element (write_of p) w d
      | inr d ↦ absurd (at_element (λ y. ¬ HasName p.caller p.number y) upper w
          (pairs_above (λ y z. ¬ HasName y.caller y.number z) lower upper (write_of p) names_here) d named)
    ]
  ]

  -- where its fragment was stored, a unit deciphers to its data
  stored_unit : (old new : List ℕ) → Contents store cipher base h s old new → (k : ℕ) → k < units_of p.bytes.items
      → slice_get p.parts.items (k / 512) ≡ Some Stored → opening new (v.per_sector * p.first + k) ≡ unit k p.bytes.items
  stored_unit old new c =
      at_element (StoredHolds store cipher base.cipher base.geometry new) s.pending p c.stored
      (subst (λ l. Contains l p) (sym was) (element_right below (p ∷ above) p (first_element p above)))

  is_part : (k : ℕ) → k < units_of p.bytes.items → k / 512 < length p.parts.items
  is_part k within = omega (arith, p.counted)

  pub sound_done : state_of p.parts.items ≡ Stored
      → Sound store cipher base (h ++ entry p.caller p.number (Done p.first (sectors_of v p.bytes.items)) ∷ []) t
  sound_done stored =
      sound_closed (Done p.first (sectors_of v p.bytes.items)) (λ _. refl)
      (record { write = write_of p; is_open = the_open; all = refl }) (sym (no_marks p.parts.items stored)) refl refl
      (both_weaker (store.image base.disk) (store.image s.disk) (Contents store cipher base h s)
      (Contents store cipher base (h ++ entry p.caller p.number (Done p.first (sectors_of v p.bytes.items)) ∷ []) t)
      (λ old new c. contents_closed (Done p.first (sectors_of v p.bytes.items)) (λ _. refl) old new (record {
        inside = λ k within.
            at_element (λ w. Holds v w.first w.bytes (after v (opening old) h)) (open_writes h) (write_of p) c.under the_open.put k within
            ∙ sym (stored_unit old new c k within (stored_at p.parts.items stored (k / 512) (is_part k within)));
        outside = λ u out. refl;
      }) tt c) sound.contents)

  module _ (placed : IsPlaced (store.size base.disk) base.geometry) (size : ℕ) (same_size : size ≡ store.size base.disk)
      (is_unit : (n : ℕ) (u : List ℕ) → n < 2 ^ 64 → IsBytes 512 u → IsBytes 512 (cipher.deciphered base.cipher n u)) where
    abbrev held : Option (List ℕ) → List ℕ
    held y = data_in store cipher y base.cipher base.geometry p

    unit_inside : (j : ℕ) → j < units_of p.bytes.items
        → 512 * (base.geometry.start / 512 + (v.per_sector * p.first + j)) + 512 ≤ base.geometry.start + base.geometry.sectors * base.geometry.sector
    unit_inside j within =
        let per : ℕ = base.geometry.sector / 512 in
        let open_mine : IsPlacedWrite v (write_of p) = mine store cipher base h s sound p below above was in
        let size : base.geometry.sector ≡ 512 * per = whole_units base.geometry.sector placed.sector in
        let rows : per * (p.first + sectors_of v p.bytes.items) ≤ per * base.geometry.sectors = mul-le-mul_left per open_mine.fits in
        let bytes : base.geometry.sectors * base.geometry.sector ≡ 512 * (per * base.geometry.sectors)
        = ap (λ (m : ℕ). base.geometry.sectors * m) size ∙ omega arith in
        omega (arith, placed.start, units_of_sectors v p.bytes.items open_mine.whole)

    unit_long : (new : List ℕ) → IsBytes size new → (j : ℕ) → j < units_of p.bytes.items → length (opening new (v.per_sector * p.first + j)) ≡ 512
    unit_long new bytes j within =
        let inside : 512 * (base.geometry.start / 512 + (v.per_sector * p.first + j)) + 512 ≤ base.geometry.start + base.geometry.sectors * base.geometry.sector
        = unit_inside j within in
        (is_unit (base.geometry.start / 512 + (v.per_sector * p.first + j)) _ (omega (arith, inside, placed.small))
        (IsBytes-piece size 512 (base.geometry.start / 512 + (v.per_sector * p.first + j)) new bytes (omega (arith, inside, placed.inside, same_size)))).count

    data_long : (y : Option (List ℕ)) → IfSome y (IsBytes size) → length (held y) ≡ length p.bytes.items
    data_long None bytes = refl
    data_long (Some new) bytes =
        length-joined (λ j. opening new (v.per_sector * p.first + j)) 512 (units_of p.bytes.items) (unit_long new bytes) ∙ omega (arith, p.whole)

    data_unit : (new : List ℕ) → IsBytes size new → (k : ℕ) → k < units_of p.bytes.items
        → unit k (held (Some new)) ≡ opening new (v.per_sector * p.first + k)
    data_unit new bytes k within =
        piece-joined (λ j. opening new (v.per_sector * p.first + j)) 512 (units_of p.bytes.items) k (unit_long new bytes) within

    module _ (m : FaultMark) (lost : state_of p.parts.items ≡ Spoilt m) where
      none_waiting : state_of p.parts.items ≢ Waiting
      none_waiting is = let never : Spoilt m ≡ Waiting = sym lost ∙ is in cc

      abbrev e : Option (List ℕ) → Event
      e y = Lost p.first (held y) (spoilt_of p.parts.items)

      contents_lost : (x y : Option (List ℕ)) → IfSome y (IsBytes size) → Both x y (Contents store cipher base h s)
          → Both x y (Contents store cipher base (h ++ entry p.caller p.number (e y) ∷ []) t)
      contents_lost None y bytes c = tt
      contents_lost (Some old) None bytes c = absurd c
      contents_lost (Some old) (Some new) bytes c =
          let units : units_of (held (Some new)) ≡ units_of p.bytes.items = ap (λ (n : ℕ). n / 512) (data_long (Some new) bytes) in
          contents_closed (e (Some new)) (λ _. refl) old new (record {
            inside = λ k within. laid_inside v p.first (held (Some new)) (after v (opening old) h) k (omega (arith, units, within)) ∙ data_unit new bytes k within;
            outside = λ u out. laid_outside v p.first (held (Some new)) (after v (opening old) h) u
                (subst (λ (n : ℕ). ¬ IsInRange (v.per_sector * p.first) n u) (sym units) out);
          })
          (λ w has named k within other.
          let here : k < units_of p.bytes.items = omega (arith, units, within) in
          data_unit new bytes k here
          ∙ stored_unit old new c k here (stored_or_listed 0 p.parts.items none_waiting (k / 512) (is_part k here)
          (λ a. other (a.0, a.1, a.2, a.3, a.4 ∙ omega arith)))
          ∙ ap (λ (z : Write). unit k z.bytes) (only_one w has named))
          c

      pub sound_lost : IfSome (store.image s.disk) (IsBytes size) → Sound store cipher base (h ++ entry p.caller p.number (e (store.image s.disk)) ∷ []) t
      sound_lost bytes =
          sound_closed (e (store.image s.disk)) (λ _. refl)
          (record {
            write = write_of p;
            is_open = the_open;
            all = data_long (store.image s.disk) bytes;
            some = some_spoilt 0 p.parts.items m lost;
            rising = spoilt_rising 0 p.parts.items;
            fragments = λ k d within. omega (arith, (spoilt_within 0 p.parts.items k d within).1, p.counted);
          }) (spoilt_marks 0 p.parts.items) refl refl
          (contents_lost (store.image base.disk) (store.image s.disk) bytes sound.contents)

    -- the write's entry, by the state of its fragments
    pub sound_answered : (x : PartState) → x ≡ state_of p.parts.items → x ≢ Waiting → IfSome (store.image s.disk) (IsBytes size)
        → Sound store cipher base (h ++ entries_of store cipher s p.caller p.number (answer_to x p) (Some p)) t
    sound_answered Waiting is some bytes = absurd (some refl)
    sound_answered Stored is some bytes =
        subst (λ (g : Geometry). Sound store cipher base (h ++ entry p.caller p.number (Done p.first (units_of p.bytes.items / (g.sector / 512))) ∷ []) t)
        (sym sound.geometry_same) (sound_done (sym is))
    sound_answered (Spoilt m) is some bytes =
        subst (λ (g : Geometry). Sound store cipher base (h ++ entry p.caller p.number (Lost p.first (data_in store cipher (store.image s.disk) s.cipher g p) (spoilt_of p.parts.items)) ∷ []) t)
        (sym sound.geometry_same)
        (subst (λ (e : C). Sound store cipher base (h ++ entry p.caller p.number (Lost p.first (data_in store cipher (store.image s.disk) e base.geometry p) (spoilt_of p.parts.items)) ∷ []) t)
        (sym sound.cipher_same) (sound_lost m (sym is) bytes))
