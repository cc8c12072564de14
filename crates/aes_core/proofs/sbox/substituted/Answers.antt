use Rattle.aes_core.proofs.Gates.{run}
use Rattle.aes_core.proofs.Box.{box_is}
use Rattle.aes_core.proofs.sbox.substituted.Goals as goal

pub returns : goal.returns
unfolding run
returns c = box_is c.args.x c.requires
