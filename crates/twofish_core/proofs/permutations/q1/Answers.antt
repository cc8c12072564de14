use Rattle.std.proofs.Common.{arith}
use Rattle.twofish_core.proofs.Tables.{table_q1}
use Rattle.twofish_core.proofs.permutations.q1.Goals as goal

pub returns : goal.returns
returns c = table_q1 c.args.x (omega arith)
