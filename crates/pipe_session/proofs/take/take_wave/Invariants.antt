-- The first lanes have the requests of a wave to which others may be added.
use Rattle.std.proofs.Common.{◌≡◌, ℕ, All, List, length, map, Option, take}
use Rattle.nbd_wire.specs.Frames.{Frame}
use Rattle.nbd_wire.specs.declared.end.End.TheVariants as end
use Rattle.pipe_lane.specs.Lanes.{IsLane, stage_in, view_in}
use Rattle.pipe_lane.specs.Queue.{IsNext}
use Rattle.pipe_lane.specs.declared.queued.Next.TheVariants as next
use Rattle.pipe_session.specs.Laws.Taking.{TakesSome}
use Rattle.vc_base.specs.Faults.{HasCause}
use Rattle.pipe_session.proofs.take.take_wave.Given as goal

abbrev pub invariant-lanes : goal.invariant-lanes
invariant-lanes g l = record {
  are_lanes : All (IsLane l.volume.lock.table.shared.table_id l.volume.geometry l.volume.cipher) l.lanes;
  room : length l.asks ≡ 8;
  views : map view_in l.lanes ≡ map view_in l.fn.lanes;
  took : (left : Option (List ℕ)) (fs : List Frame) → IsNext l.volume.geometry.sector left (g.I.Source.left l.fn.source) fs l.fn.first
      → TakesSome l.volume.geometry.sector (length l.fn.lanes) left (g.I.Source.left l.source) fs l.fn.first l.next (map stage_in l.lanes) l.k
      (take l.k l.asks);
  cause : (before : ℕ) → HasCause before (g.I.Source.faults l.fn.source) (l.fn.first ≡ next.Over end.ReadFault)
      → HasCause before (g.I.Source.faults l.source) (l.next ≡ next.Over end.ReadFault);
}
