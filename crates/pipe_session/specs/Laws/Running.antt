-- The lanes of a wave, once it has run.
--
-- HasQueued sector l      what waits in a lane is the request of some frame
-- HasRun .. l m           a lane's request was carried out, or it had none and did nothing
-- HaveAllRun .. ls ms     all lanes did so, of which ms are the lanes then
-- Waved ..                a wave was carried out by the passes of the lanes, its replies were written, and all passes met
use Rattle.std.specs.Prelude.{◌≡◌, ◌<◌, ℕ, List, length, Option, slice_index_or}
use Rattle.atomic_table.specs.Seated.{TableId}
use Rattle.hist_standing.specs.declared.Standing.{Ghosts as StandingGhosts}
use Rattle.hist_lock.specs.declared.view.View.{View}
use Rattle.io_core.specs.State.{State}
use Rattle.nbd_wire.specs.Frames.{Frame}
use Rattle.nbd_wire.specs.declared.end.End.{End}
use Rattle.sector_model.specs.declared.entry.Entry.{Entry}
use Rattle.vc_layout.specs.declared.geometry.Geometry.{Geometry}
use Rattle.pipe_lane.specs.Lanes.{CanCarry, CarriesOut, IsLane, view_in}
use Rattle.pipe_lane.specs.declared.lane.Lane.{Lane}
use Rattle.pipe_session.specs.Laws.Lanes.{HaveMet}
use Rattle.pipe_session.specs.Laws.Sending.{IsSent}
use Rattle.pipe_session.specs.Laws.Waved.{HaveRun}

module _ {S C : Type 0} {st : StandingGhosts (State S C) Entry} where
  abbrev pub HasQueued : ℕ → Lane (State S C) Entry st → Type 0
  HasQueued sector l = CanCarry sector l.stage

  pub record HasRun (id : TableId) (g : Geometry) (c : C) (l m : Lane (State S C) Entry st) : Type 0 where
    pub lane : IsLane id g c m
    pub carried : CarriesOut g.sector (view_in l) (view_in m) l.stage m.stage

  abbrev pub HaveAllRun : TableId → Geometry → C → List (Lane (State S C) Entry st) → List (Lane (State S C) Entry st) → Type 0
  HaveAllRun id g c ls ms = (length ms ≡ length ls)
      × ((k : ℕ) (d : Lane (State S C) Entry st) → k < length ls → HasRun id g c (slice_index_or ls k d) (slice_index_or ms k d))

module _ {S C : Type 0} where
  pub record Waved (sector : ℕ) (wave : List Frame) (v w : View (State S C) Entry) (us ws : List (View (State S C) Entry))
      (held now : Option (List ℕ)) (n : ℕ) (how : Option End) : Type 0 where
    pub replies : List (List ℕ)
    pub between : List (View (State S C) Entry)
    pub ran : HaveRun sector wave replies us between
    pub met : HaveMet v w between ws
    pub sent : IsSent held now replies n how
