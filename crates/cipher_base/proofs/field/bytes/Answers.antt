use Rattle.cipher_base.proofs.Words.{bytes_of_words}
use Rattle.cipher_base.proofs.field.bytes.Goals as goal

pub returns : goal.returns
returns c =
    rw (c.to_le_bytes.ensures, c.to_le_bytes-2.ensures)
    (bytes_of_words c.args.low c.args.high c.ranges.low.fits c.ranges.high.fits)
