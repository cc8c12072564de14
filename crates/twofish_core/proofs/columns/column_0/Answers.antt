use Rattle.std.proofs.Common.{arith}
use Rattle.twofish_core.proofs.Tables.{table_0}
use Rattle.twofish_core.proofs.columns.column_0.Goals as goal

pub returns : goal.returns
returns c = table_0 c.args.y (omega arith)
