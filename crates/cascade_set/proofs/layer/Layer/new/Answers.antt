use Rattle.cascade_set.specs.Laws.Lawful.{xts_is_lawful}
use Rattle.cascade_set.proofs.layer.Layer.new.Goals as goal

pub invariant_of-result : goal.invariant_of-result
invariant_of-result g c = record {
  lawful = xts_is_lawful (g.P.BlockCipher.enciphered c.new.result.main) (g.P.BlockCipher.deciphered c.new.result.main)
      (g.P.BlockCipher.enciphered c.new.result.tweak)
      (g.met.P.BlockCipher.enciphered_is_block c.new.result.main)
      (g.met.P.BlockCipher.deciphered_is_block c.new.result.main)
      (g.met.P.BlockCipher.deciphers c.new.result.main) (g.met.P.BlockCipher.enciphers c.new.result.main);
}
