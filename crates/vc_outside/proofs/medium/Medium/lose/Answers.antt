use Rattle.std.proofs.Common.{rules, refl, ap}
use Rattle.vc_outside.specs.Laws.Log.{Log}
use Rattle.vc_outside.specs.Record.{Lost}
use Rattle.vc_outside.proofs.ReadIsRecorded.{held-next}
use Rattle.vc_outside.proofs.medium.Medium.lose.Goals as goal

pub invariant_of-self : goal.invariant_of-self
invariant_of-self c = held-next c.self.inside.first.items c.self.inside.bytes.items c.self.inside.bytes.items c.self.inside.log.events c.lose.new.self.events
    (Lost c.args.at c.args.piece.now) c.self.invariant (search rules) refl (ap (λ (l : Log). l.events) c.lose.ensures)
