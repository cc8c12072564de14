use Rattle.aes_core.proofs.OnPlanes.{added_is}
use Rattle.aes_core.proofs.planes.added.Goals as goal

pub returns : goal.returns
returns c = added_is c.args.x c.args.y c.requires.left c.requires.right
