-- What a session did: which bytes it took of its source, what they left in the history of the volume, and which bytes it
-- gave to its sink.
--
-- events_of es           the events of these entries
-- Serves ..              the first n requests of the bytes taken left these events and were answered by the bytes
--                        written; after them the session ended so. If the source's bytes are known, these are also the
--                        first n requests of all of them, unless the source failed.
use Rattle.std.specs.Prelude.{◌≡◌, ℕ, List, [], Option, IfSome, map}
use Rattle.nbd_wire.specs.Frames.{frames}
use Rattle.nbd_wire.specs.Replies.{AreAnswered}
use Rattle.nbd_wire.specs.declared.end.End.{End}
use Rattle.nbd_wire.specs.declared.end.End.TheVariants.{ReadFault}
use Rattle.sector_model.specs.declared.entry.Entry.{Entry}
use Rattle.sector_model.specs.declared.entry.Event.{Event}
use Rattle.vc_outside.specs.Told.{Grows, Shrinks}

abbrev pub events_of : List Entry → List Event
events_of es = map (λ e. e.event) es

pub record Serves (sector : ℕ) (left later held now : Option (List ℕ)) (es : List Event) (n : ℕ) (how : End) : Type 0 where
  pub taken : List ℕ
  pub written : List ℕ
  pub input : Shrinks left later taken
  pub output : Grows held now written
  pub answered : AreAnswered sector (frames taken) es n written how
  -- nothing after a disconnect was taken
  pub unread : (frames taken).unread ≡ []
  pub whole : IfSome left (λ bytes. ¬ (how ≡ ReadFault) → AreAnswered sector (frames bytes) es n written how)
