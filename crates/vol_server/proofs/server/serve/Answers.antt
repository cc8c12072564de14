use Rattle.std.proofs.Common.{refl}
use Rattle.vol_server.proofs.server.serve.Goals as goal

pub returns-in-Ok-clause-served : goal.returns-in-Ok-clause-served
returns-in-Ok-clause-served g c = c.in-Ok.ensures.alone refl
