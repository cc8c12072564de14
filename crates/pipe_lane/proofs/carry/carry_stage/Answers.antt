use Rattle.std.proofs.Common.{refl, sym, subst}
use Rattle.hist_lock.specs.Known.{view}
use Rattle.pipe_lane.specs.Lanes.{CanCarry, CarriesOut}
use Rattle.pipe_lane.specs.declared.lane.Stage.{Stage}
use Rattle.pipe_lane.specs.declared.lane.Stage.TheVariants as stage
use Rattle.pipe_lane.proofs.carry.carry_stage.Goals as goal

pub carry-reply-requires-clause-queued : goal.carry-reply-requires-clause-queued
carry-reply-requires-clause-queued g c κs within = subst (CanCarry c.args.volume.now.geometry.sector) c.in-Waits.is c.requires.waits

pub returns-in-Waits-clause-carried : goal.returns-in-Waits-clause-carried
returns-in-Waits-clause-carried g c =
    subst (λ (s : Stage). CarriesOut c.args.volume.now.geometry.sector (view c.args.pass.now.seat) (view c.carry-reply.new.pass.seat) s
    (stage.Done c.carry-reply.result)) (sym c.in-Waits.is) c.carry-reply.ensures.carried

pub returns-in-Done-clause-carried : goal.returns-in-Done-clause-carried
returns-in-Done-clause-carried g c =
    subst (λ (s : Stage). CarriesOut c.args.volume.now.geometry.sector (view c.args.pass.now.seat) (view c.args.pass.now.seat) s
    (stage.Done c.in-Done.reply)) (sym c.in-Done.is) (refl, refl)

pub returns-in-Free-clause-carried : goal.returns-in-Free-clause-carried
returns-in-Free-clause-carried g c =
    subst (λ (s : Stage). CarriesOut c.args.volume.now.geometry.sector (view c.args.pass.now.seat) (view c.args.pass.now.seat) s stage.Free)
    (sym c.in-Free.is) (refl, refl)
