use Rattle.std.proofs.Common.{◌*◌}
use Rattle.cipher_base.proofs.Loops.{Done}
use Rattle.twofish_core.specs.Twofish.{g_under, inverse_cipher}
use Rattle.twofish_core.proofs.cipher.Twofish256BlockCipher.decipher_blocks.Given as goal

abbrev pub invariant-loop-i : goal.invariant-loop-i
invariant-loop-i l =
    Done 16 (2 * l.i) (λ _ b. inverse_cipher (g_under l.self.boxes.words) l.self.keys b) l.fn.blocks l.blocks

abbrev pub invariant-loop-j : goal.invariant-loop-j
invariant-loop-j l =
    Done 16 l.j (λ _ b. inverse_cipher (g_under l.self.boxes.words) l.self.keys b) l.fn.blocks l.blocks
