use Rattle.std.proofs.Common.{sym, ◌∙◌}
use Rattle.io_queue.proofs.Passes.{call_is, flush_quiet, quiet_after}
use Rattle.io_queue.proofs.volume.Volume.flush.Goals as goal

pub returns-clause-open : goal.returns-clause-open
returns-clause-open g c = let a = c.turn.ensures.acted in
    quiet_after c.args.pass.now.seat.me.0 c.turn.new.pass.seat.me.0 a.0 _ a.2 (flush_quiet c.args.pass.now.seat.me.0.number c.turn.new.act.answer) a.6 c.requires.open

pub returns-clause-call : goal.returns-clause-call
returns-clause-call g c = let a = c.turn.ensures.acted in
    call_is c.args.pass.now.seat.me.0 c.turn.new.pass.seat.me.0 a.0 _ (a.2 ∙ sym (c.result_of.ensures.entries c.args.pass.now.seat.me.0.number)) a.3
