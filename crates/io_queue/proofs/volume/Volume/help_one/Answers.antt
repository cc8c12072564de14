use Rattle.std.proofs.Common.{[]}
use Rattle.io_queue.proofs.Passes.{no_call, nothing_opens, opens_nothing}
use Rattle.io_queue.proofs.volume.Volume.help_one.Goals as goal

pub returns-in-Some-clause-open : goal.returns-in-Some-clause-open
returns-in-Some-clause-open g c =
    nothing_opens c.deposit_job.new.pass.seat.me.0
    (c.deposit_job.ensures.open [] (opens_nothing c.args.pass.now.seat.me.0 c.requires.open))

pub returns-in-None-clause-call : goal.returns-in-None-clause-call
returns-in-None-clause-call g c = no_call c.args.pass.now.seat.me.0
