use Rattle.std.proofs.Common.{refl}
use Rattle.twofish_core.specs.Twofish.{exchanged}
use Rattle.twofish_core.proofs.rounds.exchange.Goals as goal

pub returns : goal.returns
unfolding exchanged
returns c = refl
