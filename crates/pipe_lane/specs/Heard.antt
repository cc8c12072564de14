-- What was taken of a client's bytes.
--
-- before fs more          the requests fs, and then those of `more`
-- Heard left later fs     bytes were taken that are the requests fs, whatever bytes follow
-- AreAll fs how all       the requests of `all` are fs, and a session after them ends so
-- HeardAll ..             bytes were taken that are the requests fs, and then there are no others: the session ends so
use Rattle.std.specs.Prelude.{◌≡◌, ◌⊎◌, ℕ, List, [], ◌++◌, Option, IfSome}
use Rattle.nbd_wire.specs.Frames.{Frame, Frames, frames}
use Rattle.nbd_wire.specs.declared.end.End.{End}
use Rattle.nbd_wire.specs.declared.end.End.TheVariants.{ReadFault}
use Rattle.vc_outside.specs.Told.{Shrinks}

abbrev pub before : List Frame → Frames → Frames
before fs more = record { requests = fs ++ more.requests; last = more.last; unread = more.unread }

pub record Heard (left later : Option (List ℕ)) (fs : List Frame) : Type 0 where
  pub taken : List ℕ
  pub input : Shrinks left later taken
  pub frames_are : (rest : List ℕ) → frames (taken ++ rest) ≡ before fs (frames rest)

-- a source that fails tells no more bytes
abbrev pub AreAll : List Frame → End → Frames → Type 0
AreAll fs how all = (all.requests ≡ fs) × ((how ≡ all.last) ⊎ (how ≡ ReadFault))

pub record HeardAll (left later : Option (List ℕ)) (fs : List Frame) (how : End) : Type 0 where
  pub taken : List ℕ
  pub input : Shrinks left later taken
  pub are : AreAll fs how (frames taken)
  -- nothing after a disconnect was taken
  pub unread : (frames taken).unread ≡ []
  pub whole : IfSome left (λ bytes. ¬ (how ≡ ReadFault) → AreAll fs how (frames bytes))
