use Rattle.lane_kernels.proofs.WordByWord.{bytes_written}
use Rattle.lane_kernels.proofs.words.bytes.Goals as goal

pub returns : goal.returns
returns c =
    bytes_written c.args.words c.to_le_bytes.result c.to_le_bytes-2.result c.to_le_bytes-3.result
    c.to_le_bytes-4.result
    c.to_le_bytes.ensures c.to_le_bytes-2.ensures c.to_le_bytes-3.ensures c.to_le_bytes-4.ensures
