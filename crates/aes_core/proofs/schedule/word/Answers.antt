use Rattle.std.proofs.Common.{◌/◌, arith, length}
use Rattle.vc_base.proofs.Chunks.{chunk_is_piece}
use Rattle.aes_core.proofs.schedule.word.Goals as goal

pub returns : goal.returns
returns c = rw c.as_chunks.ensures.front (chunk_is_piece 4 (length c.args.words.now / 4) c.args.words.now c.args.i (omega arith))
