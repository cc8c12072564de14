use Rattle.std.proofs.Common.{ap, ◌∙◌, lit<, arith}
use Rattle.vc_base.specs.Bytes.{to_bytes}
use Rattle.cipher_base.proofs.Words.{bytes_of_words}
use Rattle.cascade_set.proofs.layer.number.Goals as goal

pub returns : goal.returns
returns c =
    rw c.to_le_bytes.ensures
    (bytes_of_words c.args.n 0 c.ranges.n.fits (lit< tt) ∙ ap (to_bytes 16) (omega arith))
