use Rattle.std.proofs.Common.{◌∷◌, [], ℕ, refl, sym, subst}
use Rattle.io_queue.specs.Laws.Acts.{MayEnd}
use Rattle.io_queue.specs.Pass.{shape}
use Rattle.io_queue.proofs.Ending.{end_leaves, may_end, waits_leaves}
use Rattle.io_queue.proofs.Passes.{began_base}
use Rattle.io_queue.proofs.volume.Volume.end_once.Goals as goal

pub turn-requires-clause-may : goal.turn-requires-clause-may
turn-requires-clause-may g c = λ l κ base log is later own.
    let b = began_base c.args.self.now.geometry c.args.self.now.cipher c.args.pass.now.seat.me.0 base is c.requires.pass.1 in
    let o = c.requires.open in (
      refl,
      subst (λ (n : ℕ). MayEnd base log c.args.self.now.geometry n c.args.first c.args.count) (sym c.number.ensures.number)
          (may_end base log c.args.self.now.geometry c.args.pass.now.seat.me.0 c.args.first c.args.count o.0 b.0 c.args.pass.now.own own o.1 o.2),
    )

pub returns-clause-call : goal.returns-clause-call
returns-clause-call g c = let a = c.turn.ensures.acted in (a.0, a.3, a.2 (sym c.number.ensures.number))

pub returns-clause-waits : goal.returns-clause-waits
returns-clause-waits g c = λ w is o. let a = c.turn.ensures.acted in
    waits_leaves c.turn.new.pass.seat.me.0 c.args.pass.now.seat.me.0.number c.args.first c.args.count w c.turn.new.act.answer a.0 (a.2 (sym c.number.ensures.number)) is (a.6 (w ∷ []) o)

pub returns-clause-ended : goal.returns-clause-ended
returns-clause-ended g c = λ other. let a = c.turn.ensures.acted in let o = c.requires.open in
    end_leaves c.args.pass.now.seat.me.0 c.turn.new.pass.seat.me.0 (shape c.args.self.now.geometry) c.args.first c.args.count o.0 c.turn.new.act.answer a.0 o.1 (a.2 (sym c.number.ensures.number)) other (a.6 (o.0 ∷ []) o.2)
