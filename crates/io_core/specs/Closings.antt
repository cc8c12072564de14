-- What a close does.
--
-- spoilt_of parts         the fragments that failed, by index and mark, in the order of their indices
-- IsEndOf w answer        this is the answer for the write w, by what became of its fragments
-- data_now ..             what the sectors of the write w hold by the store's image; if that is unknown, the write's own data
-- IsClosed ..             the write of this name gets its answer, and isn't pending afterwards unless a fragment waits
-- close_entries ..        what a close adds to the history
use Rattle.std.specs.Prelude.{◌≡◌, ℕ, suc, ◌+◌, ◌*◌, ◌/◌, List, [], ◌∷◌, ◌++◌, Option, Some, None, All, Any}
use Rattle.vc_base.specs.Bytes.{joined}
use Rattle.vc_layout.specs.declared.geometry.Geometry.{Geometry}
use Rattle.vc_outside.specs.declared.store.Store.{Ghosts as StoreGhosts}
use Rattle.cipher_base.specs.declared.unit.UnitCipher.{Ghosts as CipherGhosts}
use Rattle.sector_model.specs.Array.{sectors_of, units_of}
use Rattle.sector_model.specs.History.{HasName}
use Rattle.sector_model.specs.Plain.{entry}
use Rattle.sector_model.specs.declared.entry.Entry.{Entry}
use Rattle.sector_model.specs.declared.entry.Event.TheVariants.{Done, Lost}
use Rattle.sector_model.specs.declared.entry.FaultMark.{FaultMark}
use Rattle.io_core.specs.Fragments.{IsWaiting}
use Rattle.io_core.specs.Named.{named}
use Rattle.io_core.specs.Sound.{plain, volume}
use Rattle.io_core.specs.State.{State, write_of}
use Rattle.io_core.specs.declared.answers.Close.{Close}
use Rattle.io_core.specs.declared.answers.Close.TheVariants as close
use Rattle.io_core.specs.declared.part.PartState.{PartState}
use Rattle.io_core.specs.declared.part.PartState.TheVariants.{Waiting, Stored, Spoilt}
use Rattle.io_core.specs.declared.prepared.Prepared.{Prepared}

abbrev pub spoilt_from : ℕ → List PartState → List (ℕ × FaultMark)
spoilt_from k [] = []
spoilt_from k (Waiting ∷ xs) = spoilt_from (suc k) xs
spoilt_from k (Stored ∷ xs) = spoilt_from (suc k) xs
spoilt_from k (Spoilt m ∷ xs) = (k, m) ∷ spoilt_from (suc k) xs

abbrev pub spoilt_of : List PartState → List (ℕ × FaultMark)
spoilt_of xs = spoilt_from 0 xs

-- Waiting: a fragment waits. Done: all were stored, and the write's data comes back. Lost: none waits and some failed,
-- of which this is the first one's mark.
abbrev pub IsEndOf : Prepared → Close → Type 0
IsEndOf w close.Waiting = Any IsWaiting w.parts.items
IsEndOf w (close.Done bytes) = (bytes ≡ w.bytes) × All (λ x. x ≡ Stored) w.parts.items
IsEndOf w (close.Lost m) = ¬ Any IsWaiting w.parts.items
    × (k : ℕ) × (others : List (ℕ × FaultMark)) × (spoilt_of w.parts.items ≡ (k, m) ∷ others)

abbrev pub pending_after : Close → List Prepared → List Prepared → List Prepared
pending_after close.Waiting old rest = old
pending_after (close.Done bytes) old rest = rest
pending_after (close.Lost m) old rest = rest

pub record IsClosed (caller number : ℕ) (answer : Close) (old new : List Prepared) : Type 0 where
  pub below : List Prepared
  pub above : List Prepared
  pub write : Prepared
  pub was : old ≡ below ++ write ∷ above
  pub name : HasName caller number (write_of write)
  pub outcome : IsEndOf write answer
  pub now : new ≡ pending_after answer old (below ++ above)

module _ {S C : Type 0} (store : StoreGhosts S) (cipher : CipherGhosts C) where
  abbrev pub data_in : Option (List ℕ) → C → Geometry → Prepared → List ℕ
  data_in None c g w = w.bytes.items
  data_in (Some image) c g w = joined (λ j. plain store cipher c g image (g.sector / 512 * w.first + j)) (units_of w.bytes.items)

  abbrev pub data_now : State S C → Prepared → List ℕ
  data_now s w = data_in (store.image s.disk) s.cipher s.geometry w

  -- what the end of the write adds, if there is one of the name
  abbrev pub entries_of : State S C → ℕ → ℕ → Close → Option Prepared → List Entry
  entries_of s caller number close.Waiting found = []
  entries_of s caller number (close.Done bytes) None = []
  entries_of s caller number (close.Done bytes) (Some w) =
      entry caller number (Done w.first (sectors_of (volume s) w.bytes.items)) ∷ []
  entries_of s caller number (close.Lost m) None = []
  entries_of s caller number (close.Lost m) (Some w) =
      entry caller number (Lost w.first (data_now s w) (spoilt_of w.parts.items)) ∷ []

  abbrev pub close_entries : State S C → ℕ → ℕ → Close → List Entry
  close_entries s caller number answer = entries_of s caller number answer (named caller number s.pending)
