use Rattle.std.proofs.Common.{All, map, sym, subst, arith}
use Rattle.std.specs.List.{flat_map}
use Rattle.hist_lock.specs.Known.{view}
use Rattle.pipe_lane.specs.Lanes.{IsFree, stage_in, view_in}
use Rattle.pipe_session.specs.Laws.Lanes.{HaveMet}
use Rattle.pipe_session.specs.Laws.Sending.{replies_in}
use Rattle.pipe_session.proofs.RanLanes.{all_queued, have_run, head_of}
use Rattle.pipe_session.proofs.session.serve_wave.Goals as goal

pub run_wave-requires-clause-queued : goal.run_wave-requires-clause-queued
run_wave-requires-clause-queued g c κs within =
    all_queued c.args.volume.now.geometry.sector c.args.lanes.now c.requires.wave.0 c.requires.wave.1

pub send_replies-sent-requires-clause-few : goal.send_replies-sent-requires-clause-few
send_replies-sent-requires-clause-few g c = omega (arith, c.run_wave.ensures.0, c.requires.few)

pub send_replies-sent-requires-clause-lanes : goal.send_replies-sent-requires-clause-lanes
send_replies-sent-requires-clause-lanes g c k d lt = (c.run_wave.ensures.1 k d (omega (arith, lt, c.run_wave.ensures.0))).lane

pub returns-clause-free : goal.returns-clause-free
returns-clause-free g c = subst (All IsFree) (sym c.meet.ensures.stages) c.send_replies-sent.ensures.free

pub returns-clause-waved : goal.returns-clause-waved
returns-clause-waved g c wave has few =
    let v = c.args.volume.now in record {
      replies = flat_map replies_in (map stage_in c.run_wave.new.lanes);
      between = map view_in c.run_wave.new.lanes;
      ran = have_run v.lock.table.shared.table_id v.geometry v.cipher c.args.lanes.now c.run_wave.new.lanes wave c.run_wave.ensures.0 c.run_wave.ensures.1
          has few (head_of c.args.lanes.now c.requires.some);
      met = subst (λ us. HaveMet (view c.args.pass.now.seat) (view c.meet.new.pass.seat) us (map view_in c.meet.new.lanes))
          c.send_replies-sent.ensures.views c.meet.ensures.met;
      sent = c.send_replies-sent.ensures.sent;
    }
