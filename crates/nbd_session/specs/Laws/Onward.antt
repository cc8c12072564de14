-- What a session did so far, and what one request adds.
--
-- Onward ..     what is answered of later bytes, after what was taken, written and left so far, is answered of all of them
-- Answers ..    one request was taken and answered
-- Did v w ..    what was done so far, and the entries that a pass got meanwhile
use Rattle.std.specs.Prelude.{◌≡◌, ℕ, ◌+◌, List, ◌++◌, Option}
use Rattle.hist_lock.specs.declared.view.View.{View}
use Rattle.io_core.specs.State.{State}
use Rattle.io_queue.specs.Pass.{Call}
use Rattle.nbd_session.specs.Session.{events_of}
use Rattle.nbd_wire.specs.Frames.{Frame, frames, asks, start}
use Rattle.nbd_wire.specs.Replies.{AreAnswered, IsAnswered}
use Rattle.nbd_wire.specs.declared.end.End.{End}
use Rattle.sector_model.specs.declared.entry.Entry.{Entry}
use Rattle.sector_model.specs.declared.entry.Event.{Event}
use Rattle.vc_outside.specs.Told.{Grows, Shrinks}

pub record Onward (sector : ℕ) (left later held now : Option (List ℕ)) (es : List Event) (n : ℕ) : Type 0 where
  pub taken : List ℕ
  pub written : List ℕ
  pub input : Shrinks left later taken
  pub output : Grows held now written
  pub goes : (bytes : List ℕ) (more : List Event) (k : ℕ) (replies : List ℕ) (how : End) → AreAnswered sector (frames bytes) more k replies how
      → AreAnswered sector (frames (taken ++ bytes)) (es ++ more) (n + k) (written ++ replies) how
  pub unread : (bytes : List ℕ) → (frames (taken ++ bytes)).unread ≡ (frames bytes).unread

pub record Answers (sector : ℕ) (left later held now : Option (List ℕ)) (es : List Event) : Type 0 where
  pub frame : Frame
  pub taken : List ℕ
  pub written : List ℕ
  pub input : Shrinks left later taken
  pub output : Grows held now written
  pub starts : (rest : List ℕ) → start (taken ++ rest) ≡ asks frame.request frame.payload rest
  pub answered : IsAnswered sector frame es written

abbrev pub Did : {S C : Type 0} → ℕ → View (State S C) Entry → View (State S C) Entry
    → Option (List ℕ) → Option (List ℕ) → Option (List ℕ) → Option (List ℕ) → ℕ → Type 0
Did sector v w left later held now n = (es : List Entry) × Call v w es × Onward sector left later held now (events_of es) n
