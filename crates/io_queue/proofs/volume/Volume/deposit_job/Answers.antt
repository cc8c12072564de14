use Rattle.std.proofs.Common.{ap, subst}
use Rattle.sector_model.specs.History.{open_from}
use Rattle.io_queue.specs.Laws.Opens.{Opens}
use Rattle.io_queue.proofs.Passes.{call_is}
use Rattle.io_queue.proofs.volume.Volume.deposit_job.Goals as goal

pub returns-clause-call : goal.returns-clause-call
returns-clause-call g c = let a = c.turn.ensures.acted in call_is c.args.pass.now.seat.me.0 c.turn.new.pass.seat.me.0 a.0 _ a.2 a.3

pub returns-clause-open : goal.returns-clause-open
returns-clause-open g c = λ ws o. let a = c.turn.ensures.acted in
    subst (Opens c.turn.new.pass.seat.me.0) (ap (open_from ws) a.2) (a.6 ws o)
