-- What a closed volume leaves: nothing is pending, so the image is the array.
use Rattle.std.proofs.Common.{◌≡◌, ℕ, ◌*◌, ◌/◌, List, [], ◌∷◌, Option, Some, None, refl, sym, subst, ◌∙◌, arith}
use Rattle.std.specs.Prelude.{map}
use Rattle.std.specs.List.{All, Contains}
use Rattle.range_base.specs.Range.{IsInRange}
use Rattle.hist_lock.specs.declared.view.View.{View}
use Rattle.hist_lock.specs.Known.{numbers_of}
use Rattle.vc_outside.specs.Told.{Both}
use Rattle.vc_outside.specs.declared.store.Store.{Ghosts as StoreGhosts}
use Rattle.cipher_base.specs.declared.unit.UnitCipher.{Ghosts as CipherGhosts}
use Rattle.sector_model.specs.Array.{units_of}
use Rattle.sector_model.specs.History.{after, open_writes}
use Rattle.sector_model.specs.declared.entry.Entry.{Entry}
use Rattle.io_core.specs.Sound.{Contents, plain, Sound, volume}
use Rattle.io_core.specs.State.{State, write_of}
use Rattle.io_core.specs.declared.prepared.Prepared.{Prepared}
use Rattle.io_queue.specs.Closed.{IsLeft}
use Rattle.io_queue.specs.Pass.{NothingOpen}
use Rattle.io_queue.proofs.OwnWrites.{nothing_open}

module _ {S C : Type 0} (store : StoreGhosts S) (cipher : CipherGhosts C) (v : View (State S C) Entry) (base now : State S C)
    (sound : Sound store cipher base v.seen now) (callers : All (λ e. Contains (numbers_of v) e.caller) v.seen) (none : NothingOpen v) where
  nothing : open_writes v.seen ≡ []
  nothing = nothing_open (numbers_of v) v.seen callers none

  pub none_pending : now.pending ≡ []
  none_pending = unmapped now.pending (sound.writes ∙ nothing)
    where
      unmapped : (ps : List Prepared) → map write_of ps ≡ [] → ps ≡ []
      unmapped [] e = refl
      unmapped (p ∷ ps) e = cc

  pub left : v.base ≡ Some base → IsLeft store cipher v now.disk
  left is = record {
    base = base;
    now = now;
    is = is;
    sound = sound;
    ended = none_pending;
    disk_is = refl;
    array = array (store.image base.disk) (store.image now.disk) sound.contents;
  }
    where
      array : (x y : Option (List ℕ)) → Both x y (Contents store cipher base v.seen now)
          → Both x y (λ old new. (u : ℕ) → plain store cipher base.cipher base.geometry new u
          ≡ after (volume base) (plain store cipher base.cipher base.geometry old) v.seen u)
      array None y c = tt
      array (Some a) None c = absurd c
      array (Some a) (Some b) c = λ u. c.clear u
          (subst (All (λ w. ¬ IsInRange (base.geometry.sector / 512 * w.first) (units_of w.bytes) u)) (sym nothing) (λ k d within. absurd (omega arith)))
