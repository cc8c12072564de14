use Rattle.std.proofs.Common.{◌/◌, length, ◌∙◌, arith}
use Rattle.vc_base.specs.Bytes.{piece}
use Rattle.vc_base.proofs.Pieces.{length-piece}
use Rattle.vc_base.proofs.Words.{from_le_bytes_4}
use Rattle.vc_base.proofs.Chunks.{chunk_is_piece}
use Rattle.twofish_core.proofs.words.word_of.Goals as goal

pub returns : goal.returns
returns c =
    let bytes = c.args.bytes.now in
    c.from_le_bytes.ensures
    ∙ rw c.as_chunks.ensures.front
    (rw (chunk_is_piece 4 (length bytes / 4) bytes c.args.i (omega arith))
    (from_le_bytes_4 (piece 4 c.args.i bytes) (length-piece 4 c.args.i bytes (omega arith))))
