use Rattle.std.proofs.Common.{◌∙◌, arith}
use Rattle.vc_base.proofs.Pieces.{in_pieces_one}
use Rattle.lane_kernels.specs.SerpentRounds.{cipher}
use Rattle.serpent_core.proofs.cipher.Serpent256BlockCipher.encipher.Goals as goal

pub returns : goal.returns
returns c =
    c.serpent_blocks.ensures
    ∙ in_pieces_one 16 (λ _ b. cipher c.args.self.now.keys.k b) c.args.block.now (omega arith)
    c.told-block
