-- What a closed volume leaves.
--
-- IsLeft .. v disk        the store is that of a state without pending writes that stands for all that the pass has seen,
--                         and each unit of the volume deciphers to the array after that history
use Rattle.std.specs.Prelude.{◌≡◌, ℕ, [], Some}
use Rattle.hist_lock.specs.declared.view.View.{View}
use Rattle.vc_outside.specs.Told.{Both}
use Rattle.vc_outside.specs.declared.store.Store.{Ghosts as StoreGhosts}
use Rattle.cipher_base.specs.declared.unit.UnitCipher.{Ghosts as CipherGhosts}
use Rattle.sector_model.specs.History.{after}
use Rattle.sector_model.specs.declared.entry.Entry.{Entry}
use Rattle.io_core.specs.Sound.{plain, Sound, volume}
use Rattle.io_core.specs.State.{State}

pub record IsLeft {S C : Type 0} (store : StoreGhosts S) (cipher : CipherGhosts C) (v : View (State S C) Entry) (disk : S) : Type 0 where
  pub base : State S C
  pub now : State S C
  pub is : v.base ≡ Some base
  pub sound : Sound store cipher base v.seen now
  pub ended : now.pending ≡ []
  pub disk_is : now.disk ≡ disk
  pub array : Both (store.image base.disk) (store.image disk) (λ old new. (u : ℕ) → plain store cipher base.cipher base.geometry new u
      ≡ after (volume base) (plain store cipher base.cipher base.geometry old) v.seen u)
