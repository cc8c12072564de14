use Rattle.std.proofs.Common.{refl, ap}
use Rattle.vc_outside.specs.Laws.Log.{Log}
use Rattle.vc_outside.specs.Record.{Synced}
use Rattle.vc_outside.proofs.ReadIsRecorded.{held-next}
use Rattle.vc_outside.proofs.medium.Medium.sync.Goals as goal

pub invariant_of-self : goal.invariant_of-self
invariant_of-self c = held-next c.self.inside.first.items c.self.inside.bytes.items c.self.inside.bytes.items c.self.inside.log.events c.sync.new.self.events
    Synced c.self.invariant tt refl (ap (λ (l : Log). l.events) c.sync.ensures)
