use Rattle.std.proofs.Common.{refl, ap}
use Rattle.vc_layout.specs.declared.geometry.Geometry.{Geometry}
use Rattle.io_queue.proofs.Passes.{began_base, call_is, quiet_after}
use Rattle.io_queue.proofs.volume.Volume.note_beyond.Goals as goal

pub turn-requires-clause-may : goal.turn-requires-clause-may
turn-requires-clause-may g c = λ l κ base log is later own.
    let b = began_base c.args.self.now.geometry c.args.self.now.cipher c.args.pass.now.seat.me.0 base is c.requires.pass.1 in
    (ap (λ (k : Geometry). k.sectors) b.0, c.requires.beyond)

pub returns-clause-open : goal.returns-clause-open
returns-clause-open g c = let a = c.turn.ensures.acted in
    quiet_after c.args.pass.now.seat.me.0 c.turn.new.pass.seat.me.0 a.0 _ a.2 refl a.6 c.requires.open

pub returns-clause-call : goal.returns-clause-call
returns-clause-call g c = let a = c.turn.ensures.acted in call_is c.args.pass.now.seat.me.0 c.turn.new.pass.seat.me.0 a.0 _ a.2 a.3
