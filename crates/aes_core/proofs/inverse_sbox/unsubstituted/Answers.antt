use Rattle.aes_core.proofs.Gates.{run}
use Rattle.aes_core.proofs.InverseBox.{inverse_box_is}
use Rattle.aes_core.proofs.inverse_sbox.unsubstituted.Goals as goal

pub returns : goal.returns
unfolding run
returns c = inverse_box_is c.args.x c.requires
