-- What contracts see on a pass of a volume, beside what hist_lock says of it.
--
-- shape g                 the volume of the geometry g; the protected range doesn't matter here
-- IsVolume g              what the geometries of volumes have in common: sectors of whole units, and no end beyond 2^60
-- Began g c v             the opening state had the geometry g and the cipher c
-- IsPass id g c seat      it is a pass of the volume with this lock, geometry and cipher
-- NothingOpen v           no write is open that the pass, or one that was joined into it, has put
-- Call v w es             v became w, and the pass got the entries es
-- StandsFor v             what the pass has seen is a history that some state stands for
use Rattle.std.specs.Prelude.{◌≡◌, ◌<◌, ◌≤◌, ℕ, ◌+◌, ◌*◌, ◌%◌, ◌^◌, List, [], ◌++◌, Option, Some, None, Contains}
use Rattle.atomic_table.specs.Seated.{TableId}
use Rattle.atomic_table.specs.declared.shared.Seat.{Seat}
use Rattle.hist_lock.specs.declared.view.View.{View}
use Rattle.hist_lock.specs.History.{StartsWith, entries, SameUnder}
use Rattle.hist_lock.specs.Known.{IsPassOf, IsSame, SameShare, numbers_of, view}
use Rattle.vc_layout.specs.declared.geometry.Geometry.{Geometry}
use Rattle.vc_outside.specs.declared.store.Store.{Ghosts as StoreGhosts}
use Rattle.cipher_base.specs.declared.unit.UnitCipher.{Ghosts as CipherGhosts}
use Rattle.sector_model.specs.Array.{Volume}
use Rattle.sector_model.specs.History.{open_writes}
use Rattle.sector_model.specs.declared.entry.Entry.{Entry}
use Rattle.io_core.specs.State.{State, volume_of}
use Rattle.io_core.specs.Sound.{Sound}

abbrev pub shape : Geometry → Volume
shape g = volume_of g None

pub record IsVolume (g : Geometry) : Type 0 where
  pub some : 0 < g.sector
  pub units : g.sector % 512 ≡ 0
  pub start : g.start % 512 ≡ 0
  pub small : g.start + g.sectors * g.sector ≤ 2 ^ 60

abbrev pub caller_of : Entry → ℕ
caller_of e = e.caller

module _ {S C : Type 0} where
  pub record Began (g : Geometry) (c : C) (v : View (State S C) Entry) : Type 0 where
    pub base : State S C
    pub is : v.base ≡ Some base
    pub geometry : base.geometry ≡ g
    pub cipher : base.cipher ≡ c

  abbrev pub IsPass : TableId → Geometry → C → Seat (Option (State S C)) (View (State S C) Entry) → Type 0
  IsPass id g c seat = IsPassOf id seat × Began g c (view seat)

  -- of the entries under each of its numbers, no Put is without its end
  abbrev pub NothingOpen : View (State S C) Entry → Type 0
  NothingOpen v = (n : ℕ) → Contains (numbers_of v) n → open_writes (entries caller_of n v.seen) ≡ []

  pub record Call (v w : View (State S C) Entry) (es : List Entry) : Type 0 where
    pub same : IsSame v w
    pub share : SameShare v w
    pub later : StartsWith w.seen v.seen
    pub mine : w.mine ≡ v.mine ++ es
    -- the entries of the passes that were joined into it stay what they were
    pub settled : SameUnder caller_of v.under w.seen v.seen

  pub record StandsFor (store : StoreGhosts S) (cipher : CipherGhosts C) (v : View (State S C) Entry) : Type 0 where
    pub base : State S C
    pub now : State S C
    pub is : v.base ≡ Some base
    pub sound : Sound store cipher base v.seen now
