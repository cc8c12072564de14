use Rattle.cascade_set.proofs.Material.{enciphers_alike, deciphers_alike}
use Rattle.cascade_set.proofs.keys.later_material_is_unused.Goals as goal

pub returns-clause-enciphers : goal.returns-clause-enciphers
returns-clause-enciphers c = enciphers_alike

pub returns-clause-deciphers : goal.returns-clause-deciphers
returns-clause-deciphers c = deciphers_alike
