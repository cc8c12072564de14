-- An event that changes no write and no byte.
--
-- A read, a refusal, a failure and a flush are one entry that leaves the open writes and the array as they are.
-- So what a state stands for stays, if the entry meets its conditions and its mark, if it has one, is a new one.
use Rattle.std.proofs.Common.{◌≡◌, ◌≤◌, ℕ, true, List, [], ◌∷◌, ◌++◌, ◌/◌, ◌*◌, Option, Some, None, refl, sym, ap, subst, ◌∙◌, arith}
use Rattle.std.specs.List.{All, AllPairs}
use Rattle.std.specs.Prelude.{map}
use Rattle.range_base.specs.Range.{IsInRange, Overlap}
use Rattle.vc_outside.specs.Crash.{IsLasting}
use Rattle.vc_outside.specs.Told.{Both}
use Rattle.vc_outside.specs.declared.store.Store.{Ghosts as StoreGhosts}
use Rattle.cipher_base.specs.declared.unit.UnitCipher.{Ghosts as CipherGhosts}
use Rattle.sector_model.specs.Array.{Array, Holds, sectors_of, units_of, Volume}
use Rattle.sector_model.specs.History.{after, array_with, frozen_with, is_flushed, open_with, open_writes, Write}
use Rattle.sector_model.specs.Legal.{MeetsContents, MeetsOrder}
use Rattle.sector_model.specs.Marks.{AreMarks, marks_in}
use Rattle.sector_model.specs.Plain.{entry}
use Rattle.sector_model.specs.declared.entry.Entry.{Entry}
use Rattle.sector_model.specs.declared.entry.Event.{Event}
use Rattle.sector_model.proofs.OneMore.{after-push, is_frozen-push, IsOrdered-push, IsTold-push, open_writes-push}
use Rattle.io_core.specs.State.{IsPlacedWrite, SameVolume, State, write_of}
use Rattle.io_core.specs.Sound.{Contents, marks_pending, plain, Sound, StoredHolds, volume}

-- the event leaves open writes and array as they are
pub record IsQuiet (v : Volume) (caller number : ℕ) (e : Event) : Type 0 where
  pub open_same : (ws : List Write) → open_with caller number e ws ≡ ws
  pub array_same : (a : Array) → array_with v e a ≡ a

module _ {S C : Type 0} (store : StoreGhosts S) (cipher : CipherGhosts C) where
  contents_quiet : (base : State S C) (h : List Entry) (s t : State S C) (caller number : ℕ) (e : Event)
      → IsQuiet (volume base) caller number e → t.pending ≡ s.pending → (old new : List ℕ)
      → MeetsContents (volume base) (plain store cipher base.cipher base.geometry old) h caller number e
      → Contents store cipher base h s old new → Contents store cipher base (h ++ entry caller number e ∷ []) t old new
  contents_quiet base h s t caller number e quiet pending old new told c =
      let v : Volume = volume base in
      let a : Array = plain store cipher base.cipher base.geometry old in
      let x : Entry = entry caller number e in
      let opened : open_writes h ≡ open_writes (h ++ x ∷ []) = sym (open_writes-push h x ∙ quiet.open_same (open_writes h)) in
      let array : after v a h ≡ after v a (h ++ x ∷ []) = sym (after-push v a h x ∙ quiet.array_same (after v a h)) in
      record {
        told = IsTold-push v a h x c.told told;
        under = subst (λ ws. All (λ w. Holds v w.first w.bytes (after v a (h ++ x ∷ []))) ws) opened
            (subst (λ b. All (λ w. Holds v w.first w.bytes b) (open_writes h)) array c.under);
        clear = λ u apart. c.clear u (subst (All (λ w. ¬ IsInRange (base.geometry.sector / 512 * w.first) (units_of w.bytes) u)) (sym opened) apart)
            ∙ ap (λ (b : Array). b u) array;
        stored = subst (All (StoredHolds store cipher base.cipher base.geometry new)) (sym pending) c.stored;
        elsewhere = c.elsewhere;
      }

  pub sound_quiet : (base : State S C) (h : List Entry) (s t : State S C) (caller number : ℕ) (e : Event)
      → IsQuiet (volume base) caller number e → SameVolume s t → t.pending ≡ s.pending
      → t.guard.frozen ≡ frozen_with e s.guard.frozen
      → store.size t.disk ≡ store.size s.disk → store.image t.disk ≡ store.image s.disk
      → MeetsOrder (volume base) h caller number e
      → ((old new : List ℕ) → store.image s.disk ≡ Some new → Contents store cipher base h s old new
      → MeetsContents (volume base) (plain store cipher base.cipher base.geometry old) h caller number e)
      → store.faults s.disk ≤ store.faults t.disk
      → AreMarks (store.faults base.disk) (store.faults t.disk) (marks_in (h ++ entry caller number e ∷ []) ++ marks_pending t.pending)
      → (is_flushed (h ++ entry caller number e ∷ []) ≡ true → t.pending ≡ [] → IsLasting store.tells (store.image t.disk) (store.may_leave t.disk))
      → Sound store cipher base h s → Sound store cipher base (h ++ entry caller number e ∷ []) t
  sound_quiet base h s t caller number e quiet same pending frozen size image order told counted marks lasting sound =
      let x : Entry = entry caller number e in
      let opened : open_writes h ≡ open_writes (h ++ x ∷ []) = sym (open_writes-push h x ∙ quiet.open_same (open_writes h)) in
      record {
        ordered = IsOrdered-push (volume base) h x sound.ordered order;
        frozen = frozen ∙ ap (frozen_with e) sound.frozen ∙ sym (is_frozen-push h x);
        writes = ap (map write_of) pending ∙ sound.writes ∙ opened;
        placed = subst (All (IsPlacedWrite (volume base))) opened sound.placed;
        apart = subst (AllPairs (λ w y. ¬ Overlap w.first (sectors_of (volume base) w.bytes) y.first (sectors_of (volume base) y.bytes))) opened sound.apart;
        cipher_same = same.cipher ∙ sound.cipher_same;
        geometry_same = same.geometry ∙ sound.geometry_same;
        range_same = same.range ∙ sound.range_same;
        capacity_same = same.capacity ∙ sound.capacity_same;
        size_same = size ∙ sound.size_same;
        later = omega (arith, sound.later);
        marks = marks;
        contents = contents_of (store.image base.disk) (store.image s.disk) (store.image t.disk) image told sound.contents;
        lasting = lasting;
      }
    where
      contents_of : (x y z : Option (List ℕ)) → z ≡ y
          → ((old new : List ℕ) → y ≡ Some new → Contents store cipher base h s old new
          → MeetsContents (volume base) (plain store cipher base.cipher base.geometry old) h caller number e)
          → Both x y (Contents store cipher base h s) → Both x z (Contents store cipher base (h ++ entry caller number e ∷ []) t)
      contents_of None y z same meets c = tt
      contents_of (Some a) None z same meets c = absurd c
      contents_of (Some a) (Some b) z same meets c =
          subst (λ o. Both (Some a) o (Contents store cipher base (h ++ entry caller number e ∷ []) t)) (sym same)
          (contents_quiet base h s t caller number e quiet pending a b (meets a b refl c) c)
