use Rattle.std.proofs.Common.{◌∙◌, arith}
use Rattle.vc_base.proofs.Pieces.{in_pieces_one}
use Rattle.lane_kernels.specs.SerpentRounds.{inverse_cipher}
use Rattle.serpent_core.proofs.cipher.Serpent256BlockCipher.decipher.Goals as goal

pub returns : goal.returns
returns c =
    c.serpent_unblocks.ensures
    ∙ in_pieces_one 16 (λ _ b. inverse_cipher c.args.self.now.keys.k b) c.args.block.now (omega arith)
    c.told-block
