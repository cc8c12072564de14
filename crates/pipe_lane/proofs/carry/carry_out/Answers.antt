use Rattle.std.proofs.Common.{sym, subst}
use Rattle.hist_lock.specs.Known.{view}
use Rattle.pipe_lane.specs.Lanes.{CanCarry, CarriesOut}
use Rattle.pipe_lane.specs.declared.lane.Stage.{Stage}
use Rattle.pipe_lane.proofs.carry.carry_out.Goals as goal

pub carry_stage-then-requires-clause-pass : goal.carry_stage-then-requires-clause-pass
carry_stage-then-requires-clause-pass g c κs within = c.requires.lane.pass

pub carry_stage-then-requires-clause-open : goal.carry_stage-then-requires-clause-open
carry_stage-then-requires-clause-open g c κs within = c.requires.lane.nothing

pub carry_stage-then-requires-clause-bench : goal.carry_stage-then-requires-clause-bench
carry_stage-then-requires-clause-bench g c κs within = c.requires.lane.bench

pub carry_stage-then-requires-clause-waits : goal.carry_stage-then-requires-clause-waits
carry_stage-then-requires-clause-waits g c κs within =
    subst (CanCarry c.args.volume.now.geometry.sector) (sym c.replace-stage.ensures.value) c.requires.waits

pub returns-clause-lane : goal.returns-clause-lane
returns-clause-lane g c = let e = c.carry_stage-then.ensures in record { pass = e.pass; nothing = e.open; bench = e.bench }

pub returns-clause-carried : goal.returns-clause-carried
returns-clause-carried g c =
    subst (λ (s : Stage). CarriesOut c.args.volume.now.geometry.sector (view c.args.lane.now.pass.seat) (view c.carry_stage-then.new.pass.seat) s
    c.carry_stage-then.result) c.replace-stage.ensures.value c.carry_stage-then.ensures.carried
