use Rattle.std.proofs.Common.{arith}
use Rattle.twofish_core.proofs.Tables.{table_3}
use Rattle.twofish_core.proofs.columns.column_3.Goals as goal

pub returns : goal.returns
returns c = table_3 c.args.y (omega arith)
