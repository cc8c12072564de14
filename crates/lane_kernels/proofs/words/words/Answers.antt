use Rattle.std.proofs.Common.{arith}
use Rattle.lane_kernels.proofs.WordByWord.{words_read}
use Rattle.lane_kernels.proofs.words.words.Goals as goal

pub returns : goal.returns
returns c =
    words_read c.args.bytes c.from_le_bytes.result c.from_le_bytes-2.result c.from_le_bytes-3.result
    c.from_le_bytes-4.result (omega arith)
    c.from_le_bytes.ensures c.from_le_bytes-2.ensures c.from_le_bytes-3.ensures
    c.from_le_bytes-4.ensures
