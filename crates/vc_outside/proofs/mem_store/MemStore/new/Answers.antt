use Rattle.std.proofs.Common.{ap}
use Rattle.vc_outside.specs.Memory.{Held}
use Rattle.vc_outside.proofs.Steps.{unrecorded-lasts}
use Rattle.vc_outside.proofs.mem_store.MemStore.new.Goals as goal

pub returns-in-Ok-clause-lasting : goal.returns-in-Ok-clause-lasting
returns-in-Ok-clause-lasting c = unrecorded-lasts c.in-Ok.medium (ap (λ (h : Held). h.events) c.in-Ok.ensures)
