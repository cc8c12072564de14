use Rattle.std.proofs.Common.{◌∙◌, arith}
use Rattle.vc_base.proofs.Pieces.{in_pieces_one}
use Rattle.aes_core.specs.Aes.{inverse_cipher}
use Rattle.aes_core.proofs.cipher.Aes256BlockCipher.decipher.Goals as goal

pub returns : goal.returns
returns c =
    c.decipher_all.ensures
    ∙ in_pieces_one 16 (λ _ b. inverse_cipher c.args.self.now.keys.schedule b) c.args.block.now (omega arith) c.told-block
