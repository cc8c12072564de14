use Rattle.std.proofs.Common.{sym, subst}
use Rattle.std.proofs.iter.Serving.{serving}
use Rattle.pipe_lane.specs.Lanes.{IsLane}
use Rattle.pipe_session.specs.Laws.Running.{HasQueued}
use Rattle.pipe_session.proofs.RanLanes.{ran_as}
use Rattle.pipe_session.proofs.run.run_wave.Goals as goal

pub for_each_mut-requires-clause-accepts : goal.for_each_mut-requires-clause-accepts
for_each_mut-requires-clause-accepts g c κs within i p lt is =
    let v = c.args.volume.now in (
      (
        c.requires.sector,
        subst (IsLane v.lock.table.shared.table_id v.geometry v.cipher) (sym is) (c.requires.lanes i p.now lt),
        subst (HasQueued v.geometry.sector) (sym is) (c.requires.queued i p.now lt),
      ),
      grind serving steps 10000000,
    )

pub returns : goal.returns
returns g c = (
  c.for_each_mut.auto.s,
  λ k d lt.
      let v = c.args.volume.now in let e = (c.for_each_mut.ensures k d lt).1 in
      ran_as v.lock.table.shared.table_id v.geometry v.cipher _ _ _ _ e.argument_is e.left e.call,
)
