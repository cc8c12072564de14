-- The open writes of a pass, and the admission of one.
--
-- Opens v ws              of the entries under the pass's number these writes are open, and of no joined pass any
-- IsOwn v first count w   the write is the pass's, from the sector `first` on and of `count` sectors
-- Judges ..               what an admission's answer says of the history before it
-- WasAsked ..             a write was judged, after a history between what the pass had seen and what it has seen now
use Rattle.std.specs.Prelude.{◌≡◌, ℕ, true, false, List, [], Some, Contains, ⊤}
use Rattle.hist_lock.specs.declared.view.View.{View}
use Rattle.hist_lock.specs.History.{StartsWith, entries}
use Rattle.sector_model.specs.Array.{sectors_of, TouchesProtected, Volume}
use Rattle.sector_model.specs.History.{HasName, is_frozen, open_writes, Write}
use Rattle.sector_model.specs.declared.entry.Entry.{Entry}
use Rattle.io_core.specs.Sound.{volume}
use Rattle.io_core.specs.State.{State}
use Rattle.io_core.specs.declared.answers.Admit.{Admit}
use Rattle.io_core.specs.declared.answers.Admit.TheVariants.{In, Denied, Frozen, Later}
use Rattle.io_queue.specs.Pass.{caller_of}

abbrev pub Judges : Volume → List Entry → ℕ → ℕ → Admit → Type 0
Judges v past first count In = (is_frozen past ≡ false) × ¬ TouchesProtected v first count
Judges v past first count (Denied w) = (is_frozen past ≡ false) × TouchesProtected v first count
Judges v past first count (Frozen w) = is_frozen past ≡ true
Judges v past first count (Later w) = ⊤

module _ {S C : Type 0} where
  pub record Opens (v : View (State S C) Entry) (ws : List Write) : Type 0 where
    pub own : open_writes (entries caller_of v.number v.seen) ≡ ws
    pub joined : (n : ℕ) → Contains v.under n → open_writes (entries caller_of n v.seen) ≡ []

  pub record IsOwn (shape : Volume) (v : View (State S C) Entry) (first count : ℕ) (w : Write) : Type 0 where
    pub name : HasName v.number 0 w
    pub place : w.first ≡ first
    pub sectors : sectors_of shape w.bytes ≡ count

  pub record WasAsked (old new : View (State S C) Entry) (first count : ℕ) (answer : Admit) : Type 0 where
    pub base : State S C
    pub is : old.base ≡ Some base
    pub past : List Entry
    pub before : StartsWith past old.seen
    pub after : StartsWith new.seen past
    pub judged : Judges (volume base) past first count answer
