use Rattle.std.proofs.Common.{◌∙◌, map}
use Rattle.hist_lock.specs.Known.{view}
use Rattle.pipe_lane.specs.Lanes.{view_in}
use Rattle.pipe_session.proofs.PassesMeet.{met_then}
use Rattle.pipe_session.proofs.meet.meet.Goals as goal

pub returns-clause-met : goal.returns-clause-met
returns-clause-met g c =
    met_then (view c.args.pass.now.seat) (view c.gather.new.pass.seat) (view c.spread.new.pass.seat) (map view_in c.args.lanes.now)
    (map view_in c.gather.new.lanes) (map view_in c.spread.new.lanes) c.gather.ensures.met c.spread.ensures.met

pub returns-clause-stages : goal.returns-clause-stages
returns-clause-stages g c = c.spread.ensures.stages ∙ c.gather.ensures.stages
