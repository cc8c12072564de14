use Rattle.std.proofs.Common.{refl}
use Rattle.twofish_core.specs.Twofish.{inverse_feistel}
use Rattle.twofish_core.proofs.rounds.inverse_feistel.Goals as goal

pub returns : goal.returns
unfolding inverse_feistel
returns c = rw (c.rotate_left.ensures, c.rotate_right.ensures, c.f.ensures) refl
