-- A flush, and what a crash may leave after a call that writes nothing.
use Rattle.std.proofs.Common.{◌≡◌, ◌≤◌, ◌↔◌, ℕ, Bool, List, [], ◌∷◌, ◌++◌, Option, Some, None, refl, sym, subst, ◌∙◌}
use Rattle.std.specs.Prelude.{MatchOption}
use Rattle.vc_outside.specs.Crash.{IsLasting, MayStay, Outcomes, Stays}
use Rattle.vc_outside.specs.declared.store.Store.{Ghosts as StoreGhosts}
use Rattle.cipher_base.specs.declared.unit.UnitCipher.{Ghosts as CipherGhosts}
use Rattle.sector_model.specs.Marks.{IsMark}
use Rattle.sector_model.specs.Plain.{entry}
use Rattle.sector_model.specs.declared.entry.Entry.{Entry}
use Rattle.sector_model.specs.declared.entry.Event.TheVariants.{Fail, Flush}
use Rattle.sector_model.specs.declared.entry.FaultMark.{FaultMark}
use Rattle.sector_model.proofs.OneMore.{is_flushed-push}
use Rattle.io_core.specs.State.{State}
use Rattle.io_core.specs.Sound.{marks_pending, Sound}
use Rattle.io_core.proofs.OneMoreMark.{marks_failed, marks_quiet}
use Rattle.io_core.proofs.QuietStep.{sound_quiet}

-- if a crash left the image alone, it still does after a call that adds no outcome
pub lasting_kept : (tells : Bool) (before now : ℕ) (past since : ℕ → List ℕ → Type 0) (could can : List ℕ → Type 0)
    (x y : Option (List ℕ)) → y ≡ x → Outcomes tells before now past since could can Stays → MayStay tells y can
    → IsLasting tells x could → IsLasting tells y can
lasting_kept tells before now past since could can x y same steps may lasting told =
    go x y same (lasting told) (may told)
  where
    go : (x y : Option (List ℕ)) → y ≡ x → MatchOption x ⊥ (λ b. (c : List ℕ) → could c ↔ c ≡ b)
        → MatchOption y ⊥ (λ b. can b) → MatchOption y ⊥ (λ b. (c : List ℕ) → can c ↔ c ≡ b)
    go None None same left stays = left
    go None (Some b) same left stays = absurd left
    go (Some a) None same left stays = stays
    go (Some a) (Some b) same left stays =
        let one : b ≡ a = cc in
        λ c. (
          λ could_be. let d = steps.follows told c could_be in d.2 ∙ (left d.0).0 d.1 ∙ sym one,
          λ is. subst can (sym is) stays,
        )

module _ {S C : Type 0} (store : StoreGhosts S) (cipher : CipherGhosts C) where
  pub sound_flushed : (base : State S C) (h : List Entry) (caller number : ℕ) (s : State S C) (disk : S)
      → store.size disk ≡ store.size s.disk → store.image disk ≡ store.image s.disk
      → store.faults s.disk ≤ store.faults disk
      → IsLasting store.tells (store.image disk) (store.may_leave disk)
      → Sound store cipher base h s
      → Sound store cipher base (h ++ entry caller number Flush ∷ []) (record s { disk = disk })
  sound_flushed base h caller number s disk size image later lasting sound =
      sound_quiet store cipher base h s (record s { disk = disk }) caller number Flush
      (record { open_same = λ _. refl; array_same = λ _. refl })
      (record { cipher = refl; geometry = refl; range = refl; capacity = refl }) refl refl size image tt (λ _ _ _ _. tt)
      later
      (marks_quiet (store.faults base.disk) (store.faults s.disk) (store.faults disk) h (entry caller number Flush) (marks_pending s.pending)
      refl later sound.marks)
      (λ _ _. lasting) sound

  pub sound_unflushed : (base : State S C) (h : List Entry) (caller number first count : ℕ) (s : State S C) (disk : S)
      → store.size disk ≡ store.size s.disk → store.image disk ≡ store.image s.disk
      → store.faults s.disk ≤ store.faults disk → (m : FaultMark) → IsMark (store.faults s.disk) (store.faults disk) m
      → (IsLasting store.tells (store.image s.disk) (store.may_leave s.disk) → IsLasting store.tells (store.image disk) (store.may_leave disk))
      → Sound store cipher base h s
      → Sound store cipher base (h ++ entry caller number (Fail first count m) ∷ []) (record s { disk = disk })
  sound_unflushed base h caller number first count s disk size image later m mark lasting sound =
      sound_quiet store cipher base h s (record s { disk = disk }) caller number (Fail first count m)
      (record { open_same = λ _. refl; array_same = λ _. refl })
      (record { cipher = refl; geometry = refl; range = refl; capacity = refl }) refl refl size image tt (λ _ _ _ _. tt)
      later
      (marks_failed (store.faults base.disk) (store.faults s.disk) (store.faults disk) h (entry caller number (Fail first count m)) m (marks_pending s.pending)
      refl sound.later later mark sound.marks)
      (λ flushed none. lasting (sound.lasting (sym (is_flushed-push h (entry caller number (Fail first count m))) ∙ flushed) none)) sound
