use Rattle.std.proofs.Common.{◌<◌, ◌≤◌, length, map, get_or, refl, ◌∙◌, arith}
use Rattle.std.proofs.Math.Seq.{map-set_same}
use Rattle.std.proofs.lemmas.List.{length-map}
use Rattle.std.proofs.lemmas.List.Elements.{All-nil, All-set}
use Rattle.hist_lock.specs.History.{StartsWith}
use Rattle.hist_lock.specs.Known.{view}
use Rattle.pipe_lane.specs.Lanes.{IsLane, stage_in, view_in}
use Rattle.pipe_session.proofs.PassesMeet.{lane_tells, none_met, of_all, sees_more}
use Rattle.pipe_session.proofs.meet.gather.Goals as goal

pub lanes-init : goal.lanes-init
lanes-init g c = record {
  pass = c.requires.pass;
  nothing = c.requires.open;
  are_lanes = c.requires.lanes;
  met = none_met (view c.args.pass.now.seat) (map view_in c.args.lanes.now);
  sees = All-nil (λ v. StartsWith (view c.args.pass.now.seat).seen v.seen);
  stages = refl;
}

pub tell-requires-clause-pass : goal.tell-requires-clause-pass
tell-requires-clause-pass g c κs within =
    let lt : c.lanes.i < length c.lanes.lanes = omega arith in (c.lanes.invariant.are_lanes c.lanes.i c.index-lanes-i.result lt).pass

pub tell-requires-clause-pass_open : goal.tell-requires-clause-pass_open
tell-requires-clause-pass_open g c κs within =
    let lt : c.lanes.i < length c.lanes.lanes = omega arith in (c.lanes.invariant.are_lanes c.lanes.i c.index-lanes-i.result lt).nothing

pub lanes-preserved : goal.lanes-preserved
lanes-preserved g c =
    let v = c.args.volume.now in let so_far = c.lanes.invariant in let e = c.tell.ensures in
    let lt : c.lanes.i < length c.lanes.lanes = omega arith in
    let d = c.index-lanes-i.result in let l = get_or c.lanes.lanes c.lanes.i d in let m = record l { pass = c.tell.new.pass } in record {
      pass = e.other;
      nothing = e.other_open;
      are_lanes = All-set (IsLane v.lock.table.shared.table_id v.geometry v.cipher) c.lanes.lanes c.lanes.i m
          (record { pass = e.pass; nothing = e.pass_open; bench = (so_far.are_lanes c.lanes.i d lt).bench }) so_far.are_lanes;
      met = lane_tells (view c.args.pass.now.seat) (view c.lanes.pass.seat) (view c.tell.new.other.seat) (map view_in c.args.lanes.now)
          c.lanes.lanes c.lanes.i d m so_far.met lt e.told;
      sees = sees_more (view c.lanes.pass.seat) (view c.tell.new.other.seat) c.lanes.lanes c.lanes.i d m lt e.told so_far.sees;
      stages = map-set_same stage_in c.lanes.lanes c.lanes.i m d refl ∙ so_far.stages;
    }

pub returns-clause-sees : goal.returns-clause-sees
returns-clause-sees g c =
    let le : length (map view_in c.lanes.lanes) ≤ c.lanes.i = omega (arith, length-map c.lanes.lanes view_in) in
    of_all (λ v. StartsWith (view c.lanes.pass.seat).seen v.seen) (map view_in c.lanes.lanes) c.lanes.i le c.lanes.invariant.sees
