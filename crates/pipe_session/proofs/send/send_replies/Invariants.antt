-- The first lanes are free, and their replies were sent.
use Rattle.std.proofs.Common.{◌≡◌, ◌≤◌, ℕ, All, get_or, map, take}
use Rattle.std.specs.Prelude.{Some}
use Rattle.std.specs.List.{flat_map}
use Rattle.nbd_wire.specs.declared.end.End.TheVariants as end
use Rattle.pipe_lane.specs.Lanes.{IsFree, IsLane, stage_in, view_in}
use Rattle.pipe_lane.specs.declared.lane.Stage.{Stage}
use Rattle.pipe_session.specs.Laws.Sending.{IsSent, replies_in}
use Rattle.vc_base.specs.Faults.{HasCause}
use Rattle.pipe_session.proofs.send.send_replies.Given as goal

abbrev pub invariant-lanes : goal.invariant-lanes
invariant-lanes g l = record {
  are_lanes : All (IsLane l.volume.lock.table.shared.table_id l.volume.geometry l.volume.cipher) l.lanes;
  views : map view_in l.lanes ≡ map view_in l.fn.lanes;
  freed : All IsFree (take l.i (map stage_in l.lanes));
  others : (j : ℕ) (d : Stage) → l.i ≤ j → get_or (map stage_in l.lanes) j d ≡ get_or (map stage_in l.fn.lanes) j d;
  replies : IsSent (g.O.Sink.contents l.fn.sink) (g.O.Sink.contents l.sink) (flat_map replies_in (take l.i (map stage_in l.fn.lanes))) l.sent l.ended;
  few : l.sent ≤ l.i;
  cause : HasCause (g.O.Sink.faults l.fn.sink) (g.O.Sink.faults l.sink) (l.ended ≡ Some end.WriteFault);
}
