-- Requests that were taken of a source and aren't carried out yet.
--
-- IsQueued sector f q     q is the request of the frame f
-- TakesRequest ..         a request was taken whole
-- IsNext ..               what was taken since `left` are the requests fs, and then what is next
use Rattle.std.specs.Prelude.{◌≡◌, ℕ, List, [], ◌∷◌, ◌++◌, length, Option, IfSome}
use Rattle.nbd_wire.specs.Classes.{asked}
use Rattle.nbd_wire.specs.Frames.{asks, Frame, start}
use Rattle.nbd_wire.specs.declared.ask.Ask.TheVariants as ask
use Rattle.vc_outside.specs.Told.{Shrinks}
use Rattle.pipe_lane.specs.Heard.{Heard, HeardAll}
use Rattle.pipe_lane.specs.declared.queued.Next.{Next}
use Rattle.pipe_lane.specs.declared.queued.Next.TheVariants as next
use Rattle.pipe_lane.specs.declared.queued.Queued.{Queued}

pub record IsQueued (sector : ℕ) (f : Frame) (q : Queued) : Type 0 where
  pub request : q.request ≡ f.request
  pub asks_so : asked sector f.request ≡ q.ask
  pub stays : ¬ (q.ask ≡ ask.Disconnect)
  -- without memory for it, a payload isn't kept
  pub payload : IfSome q.payload (λ v. v.items ≡ f.payload)
  pub size : IfSome q.payload (λ v. length v.items ≡ f.request.length)

pub record TakesRequest (sector : ℕ) (left later : Option (List ℕ)) (q : Queued) : Type 0 where
  pub frame : Frame
  pub taken : List ℕ
  pub input : Shrinks left later taken
  pub starts : (rest : List ℕ) → start (taken ++ rest) ≡ asks frame.request frame.payload rest
  pub is : IsQueued sector frame q

abbrev pub IsNext : ℕ → Option (List ℕ) → Option (List ℕ) → List Frame → Next → Type 0
IsNext sector left later fs next.Unknown = Heard left later fs
IsNext sector left later fs (next.Asked q) = (f : Frame) × IsQueued sector f q × Heard left later (fs ++ f ∷ [])
IsNext sector left later fs (next.Over how) = HeardAll left later fs how
