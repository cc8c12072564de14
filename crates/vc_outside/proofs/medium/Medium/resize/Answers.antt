use Rattle.std.proofs.Common.{ap, rules}
use Rattle.vc_outside.specs.Laws.Log.{Log}
use Rattle.vc_outside.specs.Record.{Resized}
use Rattle.vc_outside.proofs.ReadIsRecorded.{held-next}
use Rattle.vc_outside.proofs.medium.Medium.resize.Goals as goal

pub invariant_of-self-2 : goal.invariant_of-self-2
invariant_of-self-2 c = held-next c.self.inside.first.items c.self.inside.bytes.items c.resize.new.self.items c.self.inside.log.events c.resize-2.new.self.events
    (Resized c.args.len) c.self.invariant tt (search rules) (ap (λ (l : Log). l.events) c.resize-2.ensures)
