-- The entries of each call, by its result. Requests have the number 0: a pass has one open write at most.
--
-- read_entries ..          what a read adds; out is the buffer afterwards
-- flush_entries ..         what a flush adds
-- WriteAdds ..             what a write adds
-- IsRefused result         the write has put nothing
-- IsJudged ..              whether a write that fits is refused, after the history past
-- Admitted ..              the history at the admission of a write, and what followed from it
use Rattle.std.specs.Prelude.{◌≡◌, ◌↔◌, ℕ, true, false, List, [], ◌∷◌, Result, Ok, Err, Some, ⊤}
use Rattle.hist_lock.specs.declared.view.View.{View}
use Rattle.hist_lock.specs.History.{StartsWith}
use Rattle.sector_model.specs.Array.{sectors_of, TouchesProtected, Volume}
use Rattle.sector_model.specs.History.{is_frozen}
use Rattle.sector_model.specs.Plain.{entry}
use Rattle.sector_model.specs.declared.entry.Entry.{Entry}
use Rattle.sector_model.specs.declared.entry.Event.TheVariants as event
use Rattle.sector_model.specs.declared.entry.FaultMark.{FaultMark}
use Rattle.io_core.specs.Sound.{volume}
use Rattle.io_core.specs.State.{State}
use Rattle.io_queue.specs.declared.error.IoError.{IoError}
use Rattle.io_queue.specs.declared.error.IoError.TheVariants.{Range, Denied, Frozen, Fault, NoMemory}

module _ {A : Type 0} (v : Volume) (caller first : ℕ) where
  abbrev pub read_entries : List ℕ → Result A IoError → List Entry
  read_entries out (Ok done) = entry caller 0 (event.Read first out) ∷ []
  read_entries out (Err Range) = entry caller 0 (event.Beyond first (sectors_of v out)) ∷ []
  read_entries out (Err (Fault m)) = entry caller 0 (event.Fail first (sectors_of v out) m) ∷ []
  read_entries out (Err other) = []

  -- Of a write that failed, the mark is that of its first failed fragment.
  abbrev pub WriteAdds : List ℕ → Result A IoError → List Entry → Type 0
  WriteAdds bytes (Ok done) es = es ≡ entry caller 0 (event.Put first bytes) ∷ entry caller 0 (event.Done first (sectors_of v bytes)) ∷ []
  WriteAdds bytes (Err Range) es = es ≡ entry caller 0 (event.Beyond first (sectors_of v bytes)) ∷ []
  WriteAdds bytes (Err Denied) es = es ≡ entry caller 0 (event.Deny first (sectors_of v bytes)) ∷ []
  WriteAdds bytes (Err Frozen) es = es ≡ entry caller 0 (event.Shut first (sectors_of v bytes)) ∷ []
  WriteAdds bytes (Err (Fault m)) es = (now : List ℕ) × (k : ℕ) × (more : List (ℕ × FaultMark))
      × (es ≡ entry caller 0 (event.Put first bytes) ∷ entry caller 0 (event.Lost first now ((k, m) ∷ more)) ∷ [])
  WriteAdds bytes (Err NoMemory) es = es ≡ []

-- the write has put nothing
abbrev pub IsRefused : {A : Type 0} → Result A IoError → Type 0
IsRefused (Ok done) = ⊥
IsRefused (Err (Fault m)) = ⊥
IsRefused (Err other) = ⊤

abbrev pub IsReadResult : {A : Type 0} → Result A IoError → Type 0
IsReadResult (Ok done) = ⊤
IsReadResult (Err Range) = ⊤
IsReadResult (Err (Fault m)) = ⊤
IsReadResult (Err other) = ⊥

abbrev pub IsFlushResult : {A : Type 0} → Result A IoError → Type 0
IsFlushResult (Ok done) = ⊤
IsFlushResult (Err (Fault m)) = ⊤
IsFlushResult (Err other) = ⊥

abbrev pub flush_entries : {A : Type 0} → ℕ → Result A IoError → List Entry
flush_entries caller (Ok done) = entry caller 0 event.Flush ∷ []
flush_entries caller (Err (Fault m)) = entry caller 0 (event.Fail 0 0 m) ∷ []
flush_entries caller (Err other) = []

pub record IsJudged {A : Type 0} (v : Volume) (past : List Entry) (first count : ℕ) (answer : Result A IoError) : Type 0 where
  pub frozen : answer ≡ Err Frozen ↔ is_frozen past ≡ true
  pub denied : answer ≡ Err Denied ↔ (is_frozen past ≡ false) × TouchesProtected v first count

-- The write was judged after the history `past`, which the pass has seen now: it had seen a prefix of it before.
pub record Admitted {A S C : Type 0} (old new : View (State S C) Entry) (first count : ℕ) (answer : Result A IoError) : Type 0 where
  pub base : State S C
  pub is : old.base ≡ Some base
  pub past : List Entry
  pub before : StartsWith past old.seen
  pub after : StartsWith new.seen past
  pub judged : IsJudged (volume base) past first count answer
