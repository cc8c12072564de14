-- Lanes, and what became of a lane's request.
--
-- reply_of r              the bytes of a reply
-- IsCarriedOut ..         the request of a frame was carried out by a pass, with this reply
-- CanCarry s              if a request waits at this stage, it is the request of some frame
-- CarriesOut ..           a request that waited was carried out, and nothing was done at any other stage
-- IsLane id g c lane      its pass is one of the volume with this lock, geometry and cipher, with no open write, and its bench
--                         is empty
-- view_in l               what the pass of a lane knows
-- stage_in l              how far the lane's request is
-- IsFree s                no request is in the lane
use Rattle.std.specs.Prelude.{◌≡◌, ℕ, ⊤, List, true, ◌++◌, drop}
use Rattle.atomic_table.specs.Seated.{TableId}
use Rattle.frag_pool.specs.Bench.{is_empty}
use Rattle.hist_standing.specs.declared.Standing.{Ghosts as StandingGhosts}
use Rattle.hist_lock.specs.Known.{view}
use Rattle.hist_lock.specs.declared.view.View.{View}
use Rattle.io_core.specs.State.{State}
use Rattle.io_queue.specs.Pass.{Call, IsPass, NothingOpen}
use Rattle.nbd_session.specs.Session.{events_of}
use Rattle.nbd_wire.specs.Frames.{Frame}
use Rattle.nbd_wire.specs.Replies.{error_of, IsAnswered}
use Rattle.nbd_wire.specs.Wire.{reply}
use Rattle.sector_model.specs.declared.entry.Entry.{Entry}
use Rattle.vc_layout.specs.declared.geometry.Geometry.{Geometry}
use Rattle.pipe_lane.specs.declared.lane.Lane.{Lane}
use Rattle.pipe_lane.specs.Queue.{IsQueued}
use Rattle.pipe_lane.specs.declared.lane.Reply.{Reply}
use Rattle.pipe_lane.specs.declared.lane.Reply.TheVariants.{Alone, Data}
use Rattle.pipe_lane.specs.declared.lane.Stage.{Stage}
use Rattle.pipe_lane.specs.declared.lane.Stage.TheVariants.{Done, Free, Waits}

abbrev pub reply_of : Reply → List ℕ
reply_of (Alone request outcome) = reply (error_of outcome) request.cookie
reply_of (Data request buf) = reply 0 request.cookie ++ drop 16 buf.items

pub record IsCarriedOut {S C : Type 0} (sector : ℕ) (f : Frame) (v w : View (State S C) Entry) (r : Reply) : Type 0 where
  pub es : List Entry
  pub call : Call v w es
  pub answered : IsAnswered sector f (events_of es) (reply_of r)

abbrev pub IsFree : Stage → Type 0
IsFree s = s ≡ Free

abbrev pub CanCarry : ℕ → Stage → Type 0
CanCarry sector (Waits q) = (f : Frame) × IsQueued sector f q
CanCarry sector other = ⊤

abbrev pub CarriesOut : {S C : Type 0} → ℕ → View (State S C) Entry → View (State S C) Entry → Stage → Stage → Type 0
CarriesOut sector v w (Waits q) (Done r) = (f : Frame) → IsQueued sector f q → IsCarriedOut sector f v w r
CarriesOut sector v w (Waits q) other = ⊥
CarriesOut sector v w Free now = (now ≡ Free) × (w ≡ v)
CarriesOut sector v w (Done r) now = (now ≡ Done r) × (w ≡ v)

module _ {S C : Type 0} {st : StandingGhosts (State S C) Entry} where
  pub record IsLane (id : TableId) (g : Geometry) (c : C) (lane : Lane (State S C) Entry st) : Type 0 where
    pub pass : IsPass id g c lane.pass.seat
    pub nothing : NothingOpen (view lane.pass.seat)
    pub bench : is_empty lane.bench ≡ true

  abbrev pub view_in : Lane (State S C) Entry st → View (State S C) Entry
  view_in l = view l.pass.seat

  abbrev pub stage_in : Lane (State S C) Entry st → Stage
  stage_in l = l.stage
