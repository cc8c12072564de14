use Rattle.std.proofs.Common.{refl}
use Rattle.twofish_core.specs.Twofish.{whitened}
use Rattle.twofish_core.proofs.rounds.whiten.Goals as goal

pub returns : goal.returns
unfolding whitened
returns c = refl
