use Rattle.std.proofs.Common.{arith}
use Rattle.twofish_core.proofs.Tables.{table_1}
use Rattle.twofish_core.proofs.columns.column_1.Goals as goal

pub returns : goal.returns
returns c = table_1 c.args.y (omega arith)
