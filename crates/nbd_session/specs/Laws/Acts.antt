-- What one request does.
--
-- Acts ..       the request of a frame changed a pass, and was replied to
-- IsRange ..    a request has count sectors from the sector first on
use Rattle.std.specs.Prelude.{◌≡◌, ◌<◌, ◌≤◌, ℕ, ◌*◌, ◌^◌, List, Option}
use Rattle.hist_lock.specs.declared.view.View.{View}
use Rattle.io_core.specs.State.{State}
use Rattle.io_queue.specs.Pass.{Call}
use Rattle.nbd_session.specs.Session.{events_of}
use Rattle.nbd_wire.specs.Frames.{Frame}
use Rattle.nbd_wire.specs.Replies.{IsAnswered}
use Rattle.nbd_wire.specs.declared.end.End.{End}
use Rattle.nbd_wire.specs.declared.request.Request.{Request}
use Rattle.sector_model.specs.declared.entry.Entry.{Entry}
use Rattle.nbd_session.specs.Sent.{Replied}

pub record Acts {S C : Type 0} (sector : ℕ) (f : Frame) (v w : View (State S C) Entry) (held now : Option (List ℕ)) (how : Option End) : Type 0 where
  pub es : List Entry
  pub call : Call v w es
  pub whole : List ℕ
  pub answered : IsAnswered sector f (events_of es) whole
  pub replied : Replied held now whole how

pub record IsRange (sector : ℕ) (r : Request) (first count : ℕ) : Type 0 where
  pub some : 0 < r.length
  pub whole : r.length ≡ sector * count
  pub small : r.length ≤ 2 ^ 25
  pub within : first < 2 ^ 55
