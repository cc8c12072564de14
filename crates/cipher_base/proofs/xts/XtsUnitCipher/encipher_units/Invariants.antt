use Rattle.std.proofs.Common.{◌+◌, ◌/◌, ◌%◌, ◌<◌, length}
use Rattle.cipher_base.specs.Xts.{xts}
use Rattle.cipher_base.proofs.Loops.{Done}
use Rattle.cipher_base.proofs.Groups.{Ready}
use Rattle.cipher_base.proofs.xts.XtsUnitCipher.encipher_units.Given as goal

abbrev pub invariant-loop-i : goal.invariant-loop-i
invariant-loop-i g l = record {
  ready : 0 < l.i % 32 → Ready (g.P.BlockCipher.enciphered l.self.tweak) l.first (length l.fn.units / 512) l.i l.tweaks;
  done : Done 512 l.i (λ i u. xts (g.P.BlockCipher.enciphered l.self.main) (g.P.BlockCipher.enciphered l.self.tweak) (l.first + i) u) l.fn.units l.units;
}
