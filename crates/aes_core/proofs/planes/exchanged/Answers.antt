use Rattle.std.proofs.Common.{arith}
use Rattle.aes_core.proofs.Exchanges.{exchanged_is}
use Rattle.aes_core.proofs.planes.exchanged.Goals as goal

pub returns : goal.returns
returns c =
    exchanged_is c.args.by c.args.mask c.args.a c.args.b c.requires.positive c.requires.within (omega arith)
    c.requires.mask c.requires.left c.requires.right
