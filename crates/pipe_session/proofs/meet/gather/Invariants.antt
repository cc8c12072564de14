-- The first lanes have told the pass what they have seen.
use Rattle.std.proofs.Common.{◌≡◌, All, map, take}
use Rattle.hist_lock.specs.History.{StartsWith}
use Rattle.hist_lock.specs.Known.{view}
use Rattle.io_queue.specs.Pass.{IsPass, NothingOpen}
use Rattle.pipe_lane.specs.Lanes.{IsLane, stage_in, view_in}
use Rattle.pipe_session.specs.Laws.Lanes.{HaveMet}
use Rattle.pipe_session.proofs.meet.gather.Given as goal

abbrev pub invariant-lanes : goal.invariant-lanes
invariant-lanes g l = record {
  pass : IsPass l.volume.lock.table.shared.table_id l.volume.geometry l.volume.cipher l.pass.seat;
  nothing : NothingOpen (view l.pass.seat);
  are_lanes : All (IsLane l.volume.lock.table.shared.table_id l.volume.geometry l.volume.cipher) l.lanes;
  met : HaveMet (view l.fn.pass.seat) (view l.pass.seat) (map view_in l.fn.lanes) (map view_in l.lanes);
  sees : All (λ v. StartsWith (view l.pass.seat).seen v.seen) (take l.i (map view_in l.lanes));
  stages : map stage_in l.lanes ≡ map stage_in l.fn.lanes;
}
