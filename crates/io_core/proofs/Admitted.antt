-- Admission: a denial, a refusal, and a write that becomes pending.
--
-- The new write has no unit in common with an open one. So its data laid over the array leaves what those hold,
-- and a unit that no open write has is as it was.
use Rattle.std.proofs.Common.{◌≡◌, ◌<◌, ℕ, zero, suc, ◌+◌, ◌*◌, ◌/◌, Bool, true, false, List, [], ◌∷◌, ◌++◌, Option, Some, get_or, length, refl, sym, ap, subst, ◌∙◌, append-nil, arith}
use Rattle.std.specs.Prelude.{slice_get}
use Rattle.std.specs.List.{All, AllPairs}
use Rattle.std.proofs.lemmas.List.{map-append}
use Rattle.std.proofs.lemmas.List.Elements.{All-push}
use Rattle.std.proofs.lemmas.List.Quantifiers.{all_pairs_push}
use Rattle.range_base.specs.Range.{IsInRange, Overlap}
use Rattle.hidden_guard.specs.Protection.{Protection}
use Rattle.vc_outside.specs.declared.store.Store.{Ghosts as StoreGhosts}
use Rattle.cipher_base.specs.declared.unit.UnitCipher.{Ghosts as CipherGhosts}
use Rattle.sector_model.specs.Array.{Array, AreSectors, Fits, Holds, laid, sectors_of, TouchesProtected, units_of, Volume}
use Rattle.sector_model.specs.History.{after, HasName, open_writes, Write}
use Rattle.sector_model.specs.Legal.{MayPut}
use Rattle.sector_model.specs.Marks.{AreMarks, marks_in}
use Rattle.sector_model.specs.Plain.{entry}
use Rattle.sector_model.specs.declared.entry.Entry.{Entry}
use Rattle.sector_model.specs.declared.entry.Event.TheVariants.{Deny, Put, Shut}
use Rattle.sector_model.specs.declared.entry.FaultMark.{FaultMark}
use Rattle.sector_model.proofs.OneMore.{after-push, is_flushed-push, is_frozen-push, IsOrdered-push, IsTold-push, open_writes-push}
use Rattle.io_core.specs.Fragments.{IsWaiting}
use Rattle.io_core.specs.State.{IsPlacedWrite, Overlaps, State, volume_of, write_of}
use Rattle.io_core.specs.Sound.{Contents, marks_of_parts, marks_pending, plain, Sound, StoredHolds, volume}
use Rattle.io_core.specs.declared.part.PartState.{PartState}
use Rattle.io_core.specs.declared.part.PartState.TheVariants.{Waiting, Stored}
use Rattle.io_core.specs.declared.prepared.Prepared.{Prepared}
use Rattle.io_core.proofs.Apart.{laid_inside, laid_outside, turned, units_apart, units_of_sectors}
use Rattle.io_core.proofs.Elements.{all_mapped}
use Rattle.io_core.proofs.Known.{both_weaker}
use Rattle.io_core.proofs.OneMoreMark.{all_left, all_right, marks_quiet}
use Rattle.io_core.proofs.QuietStep.{sound_quiet}

module _ {S C : Type 0} (store : StoreGhosts S) (cipher : CipherGhosts C) (base : State S C) (h : List Entry) (s : State S C)
    (sound : Sound store cipher base h s) where
  -- the volume is the opening's
  pub volume_same : volume s ≡ volume base
  volume_same = ap (λ g. volume_of g s.guard.range) sound.geometry_same ∙ ap (volume_of base.geometry) sound.range_same

  module _ (guard : Protection) (range : guard.range ≡ s.guard.range) (caller number first count : ℕ)
      (fits : Fits (volume s) first count) where
    pub sound_shut : s.guard.frozen ≡ true → guard.frozen ≡ true
        → Sound store cipher base (h ++ entry caller number (Shut first count) ∷ []) (record s { guard = guard })
    sound_shut was is =
        sound_quiet store cipher base h s (record s { guard = guard }) caller number (Shut first count)
        (record { open_same = λ _. refl; array_same = λ _. refl })
        (record { cipher = refl; geometry = refl; range = range; capacity = refl }) refl (is ∙ sym was) refl refl
        (sym sound.frozen ∙ was, subst (λ (v : Volume). Fits v first count) volume_same fits) (λ _ _ _ _. tt) (omega arith)
        (marks_quiet (store.faults base.disk) (store.faults s.disk) (store.faults s.disk) h (entry caller number (Shut first count)) (marks_pending s.pending) refl (omega arith) sound.marks)
        (λ flushed none. sound.lasting (sym (is_flushed-push h (entry caller number (Shut first count))) ∙ flushed) none) sound

    pub sound_deny : s.guard.frozen ≡ false → guard.frozen ≡ true → TouchesProtected (volume s) first count
        → Sound store cipher base (h ++ entry caller number (Deny first count) ∷ []) (record s { guard = guard })
    sound_deny was is touches =
        sound_quiet store cipher base h s (record s { guard = guard }) caller number (Deny first count)
        (record { open_same = λ _. refl; array_same = λ _. refl })
        (record { cipher = refl; geometry = refl; range = range; capacity = refl }) refl is refl refl (
          sym sound.frozen ∙ was,
          subst (λ (v : Volume). Fits v first count) volume_same fits,
          subst (λ (v : Volume). TouchesProtected v first count) volume_same touches,
        ) (λ _ _ _ _. tt) (omega arith)
        (marks_quiet (store.faults base.disk) (store.faults s.disk) (store.faults s.disk) h (entry caller number (Deny first count)) (marks_pending s.pending) refl (omega arith) sound.marks)
        (λ flushed none. sound.lasting (sym (is_flushed-push h (entry caller number (Deny first count))) ∙ flushed) none) sound

  pub sound_later : (guard : Protection) → guard.range ≡ s.guard.range → guard.frozen ≡ s.guard.frozen
      → Sound store cipher base (h ++ []) (record s { guard = guard })
  sound_later guard range frozen =
      subst (λ l. Sound store cipher base l (record s { guard = guard })) (sym (append-nil h))
      (subst (λ (r : Option (ℕ × ℕ)). Sound store cipher base h (record s { guard = record { range = r; frozen = guard.frozen } })) (sym range)
      (subst (λ (f : Bool). Sound store cipher base h (record s { guard = record { range = s.guard.range; frozen = f } })) (sym frozen) sound))

  -- fragments that wait have no mark
  no_mark : (ss : List PartState) → All IsWaiting ss → marks_of_parts ss ≡ []
  no_mark [] all = refl
  no_mark (x ∷ ss) all =
      let waits : x ≡ Waiting = all 0 x (omega arith) in
      ap (λ (y : PartState). marks_of_parts (y ∷ ss)) waits ∙ no_mark ss (λ k d within. all (suc k) d (omega arith))

  marks_pushed : (ps : List Prepared) (w : Prepared) → All IsWaiting w.parts.items → marks_pending (ps ++ w ∷ []) ≡ marks_pending ps
  marks_pushed [] w all = ap (λ (l : List FaultMark). l ++ []) (no_mark w.parts.items all)
  marks_pushed (p ∷ ps) w all = ap (λ (l : List FaultMark). marks_of_parts p.parts.items ++ l) (marks_pushed ps w all)

  -- of a fragment that waits nothing is said
  nothing_stored : (image : List ℕ) (w : Prepared) → All IsWaiting w.parts.items → StoredHolds store cipher base.cipher base.geometry image w
  nothing_stored image w all j within is = absurd (go w.parts.items (j / 512) all is)
    where
      go : (ss : List PartState) (k : ℕ) → All IsWaiting ss → slice_get ss k ≡ Some Stored → ⊥
      go [] k all is = cc
      go (x ∷ ss) zero all is = let waits : x ≡ Waiting = all 0 x (omega arith) in cc
      go (x ∷ ss) (suc k) all is = go ss k (λ i d inside. all (suc i) d (omega arith)) is

  module _ (w : Prepared) (guard : Protection) (range : guard.range ≡ s.guard.range) (was : s.guard.frozen ≡ false) (is : guard.frozen ≡ false)
      (whole : AreSectors (volume s) w.bytes.items) (fits : Fits (volume s) w.first (sectors_of (volume s) w.bytes.items))
      (apart : ¬ TouchesProtected (volume s) w.first (sectors_of (volume s) w.bytes.items))
      (fresh : All (λ p. ¬ HasName w.caller w.number (write_of p)) s.pending)
      (free : All (λ p. ¬ Overlaps (volume s) w.first (sectors_of (volume s) w.bytes.items) p) s.pending)
      (waiting : All IsWaiting w.parts.items) where
    abbrev put : Entry
    put = entry w.caller w.number (Put w.first w.bytes.items)

    whole_here : AreSectors (volume base) w.bytes.items
    whole_here = subst (λ (v : Volume). AreSectors v w.bytes.items) volume_same whole

    placed_write : IsPlacedWrite (volume base) (write_of w)
    placed_write = record {
      whole = whole_here;
      fits = subst (λ (v : Volume). Fits v w.first (sectors_of v w.bytes.items)) volume_same fits;
      unprotected = subst (λ (v : Volume). ¬ TouchesProtected v w.first (sectors_of v w.bytes.items)) volume_same apart;
    }

    free_open : All (λ y. ¬ Overlap w.first (sectors_of (volume base) w.bytes.items) y.first (sectors_of (volume base) y.bytes)) (open_writes h)
    free_open =
        subst (All (λ y. ¬ Overlap w.first (sectors_of (volume base) w.bytes.items) y.first (sectors_of (volume base) y.bytes))) sound.writes
        (all_mapped write_of (λ y. ¬ Overlap w.first (sectors_of (volume base) w.bytes.items) y.first (sectors_of (volume base) y.bytes)) s.pending
        (subst (λ (v : Volume). All (λ p. ¬ Overlap w.first (sectors_of v w.bytes.items) p.first (sectors_of v p.bytes.items)) s.pending) volume_same free))

    fresh_open : All (λ y. ¬ HasName w.caller w.number y) (open_writes h)
    fresh_open = subst (All (λ y. ¬ HasName w.caller w.number y)) sound.writes
        (all_mapped write_of (λ y. ¬ HasName w.caller w.number y) s.pending fresh)

    may_put : MayPut (volume base) h w.caller w.number w.first w.bytes.items
    may_put = record {
      not_frozen = sym sound.frozen ∙ was;
      served = record { whole = placed_write.whole; fits = placed_write.fits; free = free_open };
      unprotected = placed_write.unprotected;
      fresh = fresh_open;
    }

    opened : open_writes h ++ write_of w ∷ [] ≡ open_writes (h ++ put ∷ [])
    opened = sym (open_writes-push h put)

    -- a unit of an open write isn't one of the new write
    not_in_new : (k : ℕ) (d : Write) → k < length (open_writes h) → (u : ℕ)
        → IsInRange ((volume base).per_sector * (get_or (open_writes h) k d).first) (units_of (get_or (open_writes h) k d).bytes) u
        → ¬ IsInRange ((volume base).per_sector * w.first) (units_of w.bytes.items) u
    not_in_new k d within u there here =
        let v : Volume = volume base in
        let y : Write = get_or (open_writes h) k d in
        units_apart v.per_sector w.first (sectors_of v w.bytes.items) y.first (sectors_of v y.bytes) u (free_open k d within)
        (subst (λ (n : ℕ). IsInRange (v.per_sector * w.first) n u) (units_of_sectors v w.bytes.items whole_here) here)
        (subst (λ (n : ℕ). IsInRange (v.per_sector * y.first) n u) (units_of_sectors v y.bytes (sound.placed k d within).whole) there)

    contents_put : (old new : List ℕ) → Contents store cipher base h s old new
        → Contents store cipher base (h ++ put ∷ []) (record s { pending = s.pending ++ w ∷ []; guard = guard }) old new
    contents_put old new c =
        let v : Volume = volume base in
        let a : Array = plain store cipher base.cipher base.geometry old in
        let b : Array = laid v w.first w.bytes.items (after v a h) in
        let array : b ≡ after v a (h ++ put ∷ []) = sym (after-push v a h put) in
        let under_old : All (λ y. Holds v y.first y.bytes b) (open_writes h) = λ k d within j inside.
        laid_outside v w.first w.bytes.items (after v a h) (v.per_sector * (get_or (open_writes h) k d).first + j)
        (not_in_new k d within (v.per_sector * (get_or (open_writes h) k d).first + j) (record { from = omega arith; below = omega arith }))
        ∙ c.under k d within j inside in
        record {
          told = IsTold-push v a h put c.told tt;
          under = subst (λ ws. All (λ y. Holds v y.first y.bytes (after v a (h ++ put ∷ []))) ws) opened
              (subst (λ f. All (λ y. Holds v y.first y.bytes f) (open_writes h ++ write_of w ∷ [])) array
              (All-push (λ y. Holds v y.first y.bytes b) (open_writes h) (write_of w) under_old
              (λ j inside. laid_inside v w.first w.bytes.items (after v a h) j inside)));
          clear = λ u none.
              let P : Write → Type 0 = λ y. ¬ IsInRange (base.geometry.sector / 512 * y.first) (units_of y.bytes) u in
              let each : All P (open_writes h ++ write_of w ∷ []) = subst (All P) (sym opened) none in
              c.clear u (all_left P (open_writes h) (write_of w ∷ []) each)
              ∙ sym (laid_outside v w.first w.bytes.items (after v a h) u (all_right P (open_writes h) (write_of w ∷ []) each 0 (write_of w) (omega arith)))
              ∙ ap (λ (f : Array). f u) array;
          stored = All-push (StoredHolds store cipher base.cipher base.geometry new) s.pending w c.stored (nothing_stored new w waiting);
          elsewhere = c.elsewhere;
        }

    pub sound_put : Sound store cipher base (h ++ put ∷ []) (record s { pending = s.pending ++ w ∷ []; guard = guard })
    sound_put =
        let R : Write → Write → Type 0 = λ y z. ¬ Overlap y.first (sectors_of (volume base) y.bytes) z.first (sectors_of (volume base) z.bytes) in
        record {
          ordered = IsOrdered-push (volume base) h put sound.ordered may_put;
          frozen = is ∙ sym was ∙ sound.frozen ∙ sym (is_frozen-push h put);
          writes = map-append write_of s.pending (w ∷ []) ∙ ap (λ (l : List Write). l ++ write_of w ∷ []) sound.writes ∙ opened;
          placed = subst (All (IsPlacedWrite (volume base))) opened (All-push (IsPlacedWrite (volume base)) (open_writes h) (write_of w) sound.placed placed_write);
          apart = subst (AllPairs R) opened (all_pairs_push R (open_writes h) (write_of w) sound.apart
              (λ k d within. turned w.first (sectors_of (volume base) w.bytes.items) (get_or (open_writes h) k d).first (sectors_of (volume base) (get_or (open_writes h) k d).bytes) (free_open k d within)));
          cipher_same = sound.cipher_same;
          geometry_same = sound.geometry_same;
          range_same = range ∙ sound.range_same;
          capacity_same = sound.capacity_same;
          size_same = sound.size_same;
          later = sound.later;
          marks = subst (λ ms. AreMarks (store.faults base.disk) (store.faults s.disk) (marks_in (h ++ put ∷ []) ++ ms)) (sym (marks_pushed s.pending w waiting))
              (marks_quiet (store.faults base.disk) (store.faults s.disk) (store.faults s.disk) h put (marks_pending s.pending) refl (omega arith) sound.marks);
          contents = both_weaker (store.image base.disk) (store.image s.disk) (Contents store cipher base h s)
              (Contents store cipher base (h ++ put ∷ []) (record s { pending = s.pending ++ w ∷ []; guard = guard })) contents_put sound.contents;
          lasting = λ flushed. let no_flush : false ≡ true = sym (is_flushed-push h put) ∙ flushed in cc;
        }
