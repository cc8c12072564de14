use Rattle.std.proofs.Common.{arith}
use Rattle.twofish_core.proofs.Tables.{table_q0}
use Rattle.twofish_core.proofs.permutations.q0.Goals as goal

pub returns : goal.returns
returns c = table_q0 c.args.x (omega arith)
