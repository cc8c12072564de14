use Rattle.vc_base.specs.Bytes.{in_pieces}
use Rattle.cipher_base.proofs.Loops.{Done}
use Rattle.aes_core.specs.Aes.{inverse_cipher}
use Rattle.aes_core.proofs.rounds.decipher_all.Given as goal

abbrev pub invariant-loop-i : goal.invariant-loop-i
invariant-loop-i l = Done 128 l.i (λ _ p. in_pieces 16 (λ _ b. inverse_cipher l.keys.schedule b) p) l.fn.blocks l.blocks
