use Rattle.std.proofs.Common.{refl}
use Rattle.twofish_core.specs.Twofish.{feistel}
use Rattle.twofish_core.proofs.rounds.feistel.Goals as goal

pub returns : goal.returns
unfolding feistel
returns c = rw (c.rotate_right.ensures, c.rotate_left.ensures, c.f.ensures) refl
