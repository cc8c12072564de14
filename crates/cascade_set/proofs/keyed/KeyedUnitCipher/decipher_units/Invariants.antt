use Rattle.std.proofs.Common.{◌+◌, ◌/◌, ◌%◌, ◌<◌, length}
use Rattle.cipher_base.proofs.Loops.{Done}
use Rattle.cascade_set.proofs.Groups.{Ready}
use Rattle.cascade_set.specs.contracts.stretch.AnyLayerStretch.TheImpl.{ghosts}
use Rattle.cascade_set.proofs.keyed.KeyedUnitCipher.decipher_units.Given as goal

abbrev pub invariant-loop-i : goal.invariant-loop-i
invariant-loop-i l = record {
  ready : 0 < l.i % 8 → Ready (ghosts.first_tweak l.self.first) (ghosts.first_tweak l.self.second)
      (ghosts.first_tweak l.self.third) l.first (length l.fn.units / 512) l.i l.tweaks;
  done : Done 512 l.i (λ i u. ghosts.deciphered l.self.first (l.first + i)
      (ghosts.deciphered l.self.second (l.first + i) (ghosts.deciphered l.self.third (l.first + i) u)))
      l.fn.units l.units;
}
