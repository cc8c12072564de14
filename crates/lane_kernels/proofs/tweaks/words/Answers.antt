use Rattle.cipher_base.proofs.Words.{words_read}
use Rattle.lane_kernels.proofs.tweaks.words.Goals as goal

pub returns : goal.returns
returns c = words_read c.args.t.now c.from_le_bytes.result c.from_le_bytes-2.result c.told-t c.from_le_bytes.ensures c.from_le_bytes-2.ensures
