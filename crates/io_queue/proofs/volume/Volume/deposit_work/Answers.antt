use Rattle.std.proofs.Common.{[]}
use Rattle.io_queue.proofs.Passes.{calls}
use Rattle.io_queue.proofs.volume.Volume.deposit_work.Goals as goal

pub returns-in-Shared-clause-call : goal.returns-in-Shared-clause-call
returns-in-Shared-clause-call g c =
    calls c.args.pass.now.seat.me.0 c.push_all.new.pass.seat.me.0 c.take_all.new.pass.seat.me.0 [] [] c.push_all.ensures.call c.take_all.ensures.call

pub returns-in-Shared-clause-open : goal.returns-in-Shared-clause-open
returns-in-Shared-clause-open g c = λ ws o. c.take_all.ensures.open ws (c.push_all.ensures.open ws o)
