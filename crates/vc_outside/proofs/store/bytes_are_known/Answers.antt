use Rattle.std.proofs.Common.{refl, rules}
use Rattle.vc_outside.proofs.store.bytes_are_known.Goals as goal

pub returns : goal.returns
returns c = record { count = refl; each = search rules }
