use Rattle.std.proofs.Common.{rules, ℕ, List, subst}
use Rattle.io_queue.specs.Laws.Acts.{fetched}
use Rattle.io_queue.specs.Pass.{Call}
use Rattle.io_queue.proofs.Passes.{began_base, call_is, fetched_quiet, quiet_after}
use Rattle.io_queue.proofs.volume.Volume.fetch_once.Goals as goal

pub turn-requires-clause-may : goal.turn-requires-clause-may
turn-requires-clause-may g c = λ l κ base log is later own.
    let b = began_base c.args.self.now.geometry c.args.self.now.cipher c.args.pass.now.seat.me.0 base is c.requires.pass.1 in
    record { geometry = b.0; cipher = b.1; some = c.requires.some; whole = c.requires.whole; fits = c.requires.fits }

pub returns-clause-open : goal.returns-clause-open
returns-clause-open g c = let a = c.turn.ensures.acted in
    quiet_after c.args.pass.now.seat.me.0 c.turn.new.pass.seat.me.0 a.0 _ a.2.0
    (fetched_quiet g.C.UnitCipher c.args.self.now.cipher c.args.self.now.geometry c.args.pass.now.seat.me.0.number c.args.first
    c.turn.new.act.out.now c.turn.new.act.answer) a.6 c.requires.open

pub returns-clause-call : goal.returns-clause-call
returns-clause-call g c = let a = c.turn.ensures.acted in
    subst (λ (out : List ℕ). Call c.args.pass.now.seat.me.0 c.turn.new.pass.seat.me.0
    (fetched g.C.UnitCipher c.args.self.now.cipher c.args.self.now.geometry c.args.pass.now.seat.me.0.number c.args.first out c.turn.new.act.answer))
    (search rules) (call_is c.args.pass.now.seat.me.0 c.turn.new.pass.seat.me.0 a.0 _ a.2.0 a.3)
