use Rattle.std.proofs.Common.{[], refl}
use Rattle.hist_lock.specs.Known.{view}
use Rattle.io_queue.proofs.Passes.{no_call}
use Rattle.nbd_wire.specs.declared.ask.Ask.TheVariants as ask
use Rattle.nbd_wire.specs.declared.reply.Outcome.TheVariants as outcome
use Rattle.pipe_lane.proofs.CarriedOut.{carried_alone}
use Rattle.pipe_lane.proofs.carry.carry_read.Goals as goal

pub returns-in_default-clause-carried : goal.returns-in_default-clause-carried
returns-in_default-clause-carried g c payload =
    carried_alone c.args.volume.now.geometry.sector c.args.request payload (view c.args.pass.now.seat) (view c.args.pass.now.seat)
    (ask.Read c.args.first c.args.count) outcome.NoMemory [] c.requires.asked (no_call (view c.args.pass.now.seat)) (refl, refl)

pub returns-clause-carried : goal.returns-clause-carried
returns-clause-carried g c payload = c.carry_in.ensures.carried payload
