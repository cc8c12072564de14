use Rattle.std.proofs.Common.{◌++◌, refl}
use Rattle.io_queue.specs.Pass.{Call}
use Rattle.io_queue.proofs.Passes.{began_after, called, opens_after}
use Rattle.io_queue.proofs.volume.Volume.turn.Goals as goal

pub returns-clause-pass : goal.returns-clause-pass
returns-clause-pass g c = (c.turn.ensures.pass, began_after _ _ _ _ c.turn.ensures.same.0.base c.requires.pass.1)

pub returns-clause-acted : goal.returns-clause-acted
returns-clause-acted g c =
    let a = c.turn.ensures.acted in
    let v = c.args.pass.now.seat.me.0 in
    let w = c.turn.new.pass.seat.me.0 in
    let call : Call v w a.0 = called v w a.0 a.1 c.turn.ensures.same.0 c.turn.ensures.same.1 a.4 a.5 c.turn.ensures.settled in
    (a.0, v.seen ++ a.1, a.2, call, (a.1, refl), a.4, λ ws o. opens_after v w ws a.0 call c.args.pass.now.own c.turn.new.pass.own o)

pub returns-clause-stands : goal.returns-clause-stands
returns-clause-stands g c = let s = c.turn.ensures.stands in record { base = s.0; now = s.1; is = s.2; sound = s.3 }
