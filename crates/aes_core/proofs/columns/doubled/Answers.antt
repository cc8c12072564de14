use Rattle.aes_core.proofs.Gates.{run}
use Rattle.aes_core.proofs.Doubling.{double_is}
use Rattle.aes_core.proofs.columns.doubled.Goals as goal

pub returns : goal.returns
unfolding run
returns c = double_is c.args.x c.requires
