-- The waves so far were served.
use Rattle.std.proofs.Common.{◌≡◌, ◌≤◌, ◌*◌, All, List, length, map}
use Rattle.hist_lock.specs.Known.{view}
use Rattle.io_queue.specs.Pass.{IsPass, NothingOpen}
use Rattle.nbd_wire.specs.declared.end.End.TheVariants as end
use Rattle.pipe_lane.specs.Lanes.{IsFree, IsLane, stage_in, view_in}
use Rattle.pipe_lane.specs.declared.queued.Next.TheVariants as next
use Rattle.pipe_session.specs.Meeting.{HaveSeen, HaveServed}
use Rattle.pipe_session.specs.Laws.Waved.{Onward}
use Rattle.sector_model.specs.declared.entry.Entry.{Entry}
use Rattle.vc_base.specs.Faults.{HasCause}
use Rattle.pipe_session.proofs.session.pipe.Given as goal

abbrev pub invariant-waves : goal.invariant-waves
invariant-waves g l = record {
  pass : IsPass l.volume.lock.table.shared.table_id l.volume.geometry l.volume.cipher l.pass.seat;
  nothing : NothingOpen (view l.pass.seat);
  are_lanes : All (IsLane l.volume.lock.table.shared.table_id l.volume.geometry l.volume.cipher) l.lanes;
  free : All IsFree (map stage_in l.lanes);
  seen : HaveSeen (view l.pass.seat) (map view_in l.lanes);
  did : (h : List Entry) × HaveServed (view l.fn.pass.seat) (view l.pass.seat) (map view_in l.fn.lanes) (map view_in l.lanes) h
      × Onward l.volume.geometry.sector (map (λ v. v.number) (map view_in l.fn.lanes)) (g.I.Source.left l.fn.link.source) (g.I.Source.left l.link.source)
      (g.O.Sink.contents l.fn.link.sink) (g.O.Sink.contents l.link.sink) l.next h l.replies;
  long : length l.lanes ≡ length l.fn.lanes;
  few : l.replies ≤ 8 * l.n;
  cause : HasCause (g.I.Source.faults l.fn.link.source) (g.I.Source.faults l.link.source) (l.next ≡ next.Over end.ReadFault);
  written : g.O.Sink.faults l.fn.link.sink ≤ g.O.Sink.faults l.link.sink;
}
