-- A served volume from its opening on. Only private contracts cite it.
--
-- IsFirst v              the pass is the first of its volume, which has no history yet
-- RanFrom u v c          the volume was served from the pass u on, and closed with the pass v
-- Opening ..             the volume of an opened header was served, or there was no memory to open it
use Rattle.std.specs.Prelude.{◌≡◌, ◌⊎◌, ℕ, Bool, List, [], Option, Some, MatchOption}
use Rattle.vc_base.specs.Faults.{Rose}
use Rattle.vc_header.specs.Volume.{IsVolume}
use Rattle.vc_outside.specs.declared.store.Store.{Ghosts as StoreGhosts}
use Rattle.vc_outside.specs.declared.source.Source.{Ghosts as SourceGhosts}
use Rattle.vc_outside.specs.declared.sink.Sink.{Ghosts as SinkGhosts}
use Rattle.cipher_base.specs.declared.unit.UnitCipher.{Ghosts as CipherGhosts}
use Rattle.cascade_set.specs.Cascade.{enciphered, deciphered}
use Rattle.header_seal.specs.declared.opened.Opened.{Opened}
use Rattle.hist_lock.specs.declared.view.View.{View}
use Rattle.sector_model.specs.declared.entry.Entry.{Entry}
use Rattle.io_core.specs.State.{State}
use Rattle.vc_app.specs.declared.status.Status.TheVariants.{DiskFault, NoMemory}
use Rattle.vc_app.specs.Cat.{keys_of}
use Rattle.vc_app.specs.Promise.{Seen}
use Rattle.vc_app.specs.Serve.{Call, Ran, Unserved}

pub record IsFirst {T E : Type 0} (v : View T E) : Type 0 where
  pub part : v.part ≡ 1
  pub halvings : v.halvings ≡ 0
  pub seen : v.seen ≡ []
  pub under : v.under ≡ []

module _ {S C I O : Type 0} (store : StoreGhosts S) (cipher : CipherGhosts C) (source : SourceGhosts I) (sink : SinkGhosts O) where
  pub record RanFrom (handshake : Bool) (u v : View (State S C) Entry) (c : Call I O) : Type 0 where
    pub same : v.base ≡ u.base
    pub ran : Ran store cipher source sink handshake v c

  -- what holds of the opening state
  pub record IsOpened (o : Opened) (range : Option (ℕ × ℕ)) (old : Seen) (base : State S C) : Type 0 where
    pub image : store.image base.disk ≡ old.image
    pub size : store.size base.disk ≡ old.size
    pub faults : store.faults base.disk ≡ old.disk_faults
    pub enciphers : (n : ℕ) (u : List ℕ) → cipher.enciphered base.cipher n u ≡ enciphered (keys_of o) n u
    pub deciphers : (n : ℕ) (u : List ℕ) → cipher.deciphered base.cipher n u ≡ deciphered (keys_of o) n u
    pub geometry : IsVolume o.fields base.geometry
    pub range_is : base.guard.range ≡ range
    pub pending : base.pending ≡ []

  pub record NotOpened (faults : ℕ) (c : Call I O) : Type 0 where
    pub unserved : Unserved c
    pub cause : ((c.status ≡ DiskFault) × Rose faults c.new.disk_faults) ⊎ ((c.status ≡ NoMemory) × (c.new.disk_faults ≡ faults))

  pub record WasOpened (o : Opened) (range : Option (ℕ × ℕ)) (handshake : Bool) (v : View (State S C) Entry) (c : Call I O) : Type 0 where
    pub base : State S C
    pub is : v.base ≡ Some base
    pub opened : IsOpened o range c.old base
    pub ran : Ran store cipher source sink handshake v c

  abbrev pub Opening : Opened → Option (ℕ × ℕ) → ℕ → Bool → Option (View (State S C) Entry) → Call I O → Type 0
  Opening o range faults handshake pass c = MatchOption pass (NotOpened faults c) (λ v. WasOpened o range handshake v c)
