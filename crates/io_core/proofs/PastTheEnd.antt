-- A request that passes the volume's end is refused, and changes nothing.
use Rattle.std.proofs.Common.{ℕ, List, [], ◌∷◌, ◌++◌, refl, sym, subst, ◌∙◌, arith}
use Rattle.vc_outside.specs.declared.store.Store.{Ghosts as StoreGhosts}
use Rattle.cipher_base.specs.declared.unit.UnitCipher.{Ghosts as CipherGhosts}
use Rattle.sector_model.specs.Array.{Fits, Volume}
use Rattle.sector_model.specs.Plain.{entry}
use Rattle.sector_model.specs.declared.entry.Entry.{Entry}
use Rattle.sector_model.specs.declared.entry.Event.TheVariants.{Beyond}
use Rattle.sector_model.proofs.OneMore.{is_flushed-push}
use Rattle.io_core.specs.Sound.{marks_pending, Sound, volume}
use Rattle.io_core.specs.State.{State}
use Rattle.io_core.proofs.Admitted.{volume_same}
use Rattle.io_core.proofs.OneMoreMark.{marks_quiet}
use Rattle.io_core.proofs.QuietStep.{sound_quiet}

module _ {S C : Type 0} (store : StoreGhosts S) (cipher : CipherGhosts C) where
  pub sound_beyond : (base : State S C) (h : List Entry) (s : State S C) (caller number first count : ℕ)
      → ¬ Fits (volume s) first count → Sound store cipher base h s
      → Sound store cipher base (h ++ entry caller number (Beyond first count) ∷ []) s
  sound_beyond base h s caller number first count past sound =
      sound_quiet store cipher base h s s caller number (Beyond first count)
      (record { open_same = λ _. refl; array_same = λ _. refl })
      (record { cipher = refl; geometry = refl; range = refl; capacity = refl }) refl refl refl refl
      (subst (λ (v : Volume). ¬ Fits v first count) (volume_same store cipher base h s sound) past) (λ _ _ _ _. tt) (omega arith)
      (marks_quiet (store.faults base.disk) (store.faults s.disk) (store.faults s.disk) h (entry caller number (Beyond first count)) (marks_pending s.pending) refl (omega arith) sound.marks)
      (λ flushed none. sound.lasting (sym (is_flushed-push h (entry caller number (Beyond first count))) ∙ flushed) none) sound
