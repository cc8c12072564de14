use Rattle.std.proofs.Common.{sym, subst}
use Rattle.serpent_core.specs.Laws.Undone.{AreRoundKeys}
use Rattle.serpent_core.proofs.KeyByKey.{round_keys-words}
use Rattle.serpent_core.proofs.cipher.Serpent256.new.Goals as goal

pub invariant_of-result : goal.invariant_of-result
invariant_of-result c = record {
  words = subst AreRoundKeys (sym c.expand.ensures) (round_keys-words c.args.key.now);
}
