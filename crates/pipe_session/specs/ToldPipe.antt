-- What a session did whose requests are carried out in waves: which bytes it took of its source, what they left in the history
-- of the volume, and which bytes it gave to its sink.
--
-- The session has lanes, each with a pass of its own; ns are the numbers of these passes, in the order of the lanes. A wave
-- has as many requests as there are lanes, or fewer. Its first request runs on the first lane, its second one on the second
-- lane, and so on, and they may run at the same time. The entries of a lane are those under its number. The history that was added during
-- the session is cut into one part for each wave, in order: so whatever the requests of a wave do, they do after all earlier
-- waves and before all later ones.
--
-- own_events n part           the events under the number n in a part of the history
-- AreCarriedOut fs rs part    the requests fs of a wave left their events in this part, each under the number of its lane, and
--                             their replies are rs; a lane without a request left none
-- GoesOn, Stops, IsOver       a wave was answered whole and the others go on so; the replies stopped inside a wave; there is no
--                             other wave
-- WavesTold ws last h n bytes how
--                             of the requests in these waves the first n have been replied to whole; the history h has the
--                             parts of the waves, `bytes` are the replies, and the session ended so
-- ToldPipe fs h n bytes how   the same of the requests of a client's bytes
-- HasFailed how rose          the source failed: the session ended so, or the source's count of faults rose, and the sink
--                             refused a reply
-- ServesPipe ..               the requests of the bytes taken left this history and were answered by the bytes written; after
--                             them the session ended so. If the source's bytes are known, these are the requests of all of
--                             them, unless the source failed.
use Rattle.std.specs.Prelude.{◌≡◌, ◌<◌, ◌≤◌, ◌⊎◌, ℕ, ◌+◌, ⊤, List, [], ◌∷◌, ◌++◌, length, get_or, take, Option, IfSome}
use Rattle.std.specs.List.{concat}
use Rattle.hist_lock.specs.History.{entries}
use Rattle.io_queue.specs.Pass.{caller_of}
use Rattle.nbd_session.specs.Session.{events_of}
use Rattle.nbd_wire.specs.Frames.{Frame, Frames, frames}
use Rattle.nbd_wire.specs.Replies.{IsAnswered}
use Rattle.nbd_wire.specs.declared.end.End.{End}
use Rattle.nbd_wire.specs.declared.end.End.TheVariants.{NoMemory, ReadFault, WriteFault}
use Rattle.sector_model.specs.declared.entry.Entry.{Entry}
use Rattle.sector_model.specs.declared.entry.Event.{Event}
use Rattle.vc_outside.specs.Told.{Grows, Shrinks}
use Rattle.pipe_session.specs.Waves.{waves}

abbrev pub own_events : ℕ → List Entry → List Event
own_events n part = events_of (entries caller_of n part)

module _ (sector : ℕ) (ns : List ℕ) where
  pub record AreCarriedOut (fs : List Frame) (rs : List (List ℕ)) (part : List Entry) : Type 0 where
    pub few : length fs ≤ length ns
    pub replies : length rs ≡ length fs
    pub each : (j : ℕ) (d : Frame) → j < length fs
        → IsAnswered sector (get_or fs j d) (own_events (get_or ns j 0) part) (get_or rs j [])
    pub none : (j : ℕ) → length fs ≤ j → j < length ns → own_events (get_or ns j 0) part ≡ []

  -- The wave was answered whole, and the others go on so.
  pub record GoesOn (wave : List Frame) (Rest : List Entry → ℕ → List ℕ → Type 0) (h : List Entry) (n : ℕ) (bytes : List ℕ) : Type 0 where
    pub part : List Entry
    pub replies : List (List ℕ)
    pub carried_out : AreCarriedOut wave replies part
    pub later : List Entry
    pub count : ℕ
    pub rest : List ℕ
    pub others : Rest later count rest
    pub history : h ≡ part ++ later
    pub counted : n ≡ length wave + count
    pub written : bytes ≡ concat replies ++ rest

  -- The whole wave was carried out, and the sink refused a reply of it: the first n were written whole, and a part of the
  -- next one.
  pub record Stops (wave : List Frame) (h : List Entry) (n : ℕ) (bytes : List ℕ) (how : End) : Type 0 where
    pub replies : List (List ℕ)
    pub carried_out : AreCarriedOut wave replies h
    pub refused : n < length replies
    pub size : ℕ
    pub in_part : size < length (get_or replies n [])
    pub written : bytes ≡ concat (take n replies) ++ take size (get_or replies n [])
    pub cause : (how ≡ WriteFault) ⊎ (how ≡ NoMemory)

  -- All requests were answered, and no lane left an event in what is left of the history. A source that fails tells no more bytes.
  pub record IsOver (last : End) (h : List Entry) (n : ℕ) (bytes : List ℕ) (how : End) : Type 0 where
    pub none : AreCarriedOut [] [] h
    pub no_reply : n ≡ 0
    pub nothing : bytes ≡ []
    pub cause : (how ≡ last) ⊎ (how ≡ ReadFault)

  abbrev pub WavesTold : List (List Frame) → End → List Entry → ℕ → List ℕ → End → Type 0
  WavesTold [] last h n bytes how = IsOver last h n bytes how
  WavesTold (wave ∷ ws) last h n bytes how =
      GoesOn wave (λ later count rest. WavesTold ws last later count rest how) h n bytes ⊎ Stops wave h n bytes how

  abbrev pub ToldPipe : Frames → List Entry → ℕ → List ℕ → End → Type 0
  ToldPipe fs h n bytes how = WavesTold (waves sector (length ns) fs.requests) fs.last h n bytes how

abbrev pub HasFailed : End → Type 0 → Type 0
HasFailed ReadFault rose = ⊤
HasFailed WriteFault rose = rose
HasFailed NoMemory rose = rose
HasFailed other rose = ⊥

pub record ServesPipe (sector : ℕ) (ns : List ℕ) (left later held now : Option (List ℕ)) (rose : Type 0) (h : List Entry) (n : ℕ) (how : End) : Type 0 where
  pub taken : List ℕ
  pub written : List ℕ
  pub input : Shrinks left later taken
  pub output : Grows held now written
  pub told : ToldPipe sector ns (frames taken) h n written how
  -- nothing after a disconnect was taken
  pub unread : (frames taken).unread ≡ []
  pub whole : IfSome left (λ bytes. ¬ HasFailed how rose → ToldPipe sector ns (frames bytes) h n written how)
