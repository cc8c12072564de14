use Rattle.cipher_base.proofs.Loops.{Done}
use Rattle.cipher_base.proofs.block.BlockCipher.decipher_blocks.Given as goal

abbrev pub invariant-loop-i : goal.invariant-loop-i
invariant-loop-i g l = Done 16 l.i (λ _ b. g.Self.BlockCipher.deciphered l.self b) l.fn.blocks l.blocks
