use Rattle.io_queue.proofs.Passes.{began_after, joined_open}
use Rattle.io_queue.proofs.volume.Volume.join.Goals as goal

pub returns-clause-pass : goal.returns-clause-pass
returns-clause-pass g c = (c.join.ensures.pass, began_after _ _ _ _ c.join.ensures.same.0 c.requires.pass.1)

pub returns-clause-open : goal.returns-clause-open
returns-clause-open g c = let e = c.join.ensures in
    joined_open c.args.pass.now.seat.me.0 c.args.other.seat.me.0 c.join.new.pass.seat.me.0
    c.args.pass.now.own c.args.other.own c.join.new.pass.own e.same.1 e.same.2 e.under e.joined e.ended e.settled c.requires.open.0 c.requires.open.1
