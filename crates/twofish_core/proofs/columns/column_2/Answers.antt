use Rattle.std.proofs.Common.{arith}
use Rattle.twofish_core.proofs.Tables.{table_2}
use Rattle.twofish_core.proofs.columns.column_2.Goals as goal

pub returns : goal.returns
returns c = table_2 c.args.y (omega arith)
