use Rattle.aes_core.proofs.Gates.{run}
use Rattle.aes_core.proofs.Doubling.{quadruple_is}
use Rattle.aes_core.proofs.columns.quadrupled.Goals as goal

pub returns : goal.returns
unfolding run
returns c = quadruple_is c.args.x c.requires
