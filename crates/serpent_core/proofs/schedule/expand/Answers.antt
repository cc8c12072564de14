use Rattle.std.proofs.Common.{◌∙◌, refl, arith, length-set}
use Rattle.serpent_core.proofs.KeyByKey.{keys_start, keys_go_on, keys_end}
use Rattle.serpent_core.proofs.schedule.expand.Goals as goal

pub loop-i-init : goal.loop-i-init
loop-i-init c = record { long = refl; filled = keys_start c.args.key.now }

pub loop-i-preserved : goal.loop-i-preserved
loop-i-preserved c =
    let inv = c.loop-i.invariant in
    record {
      long = length-set c.loop-i.k c.loop-i.i c.key_of_round.result ∙ inv.long;
      filled = keys_go_on c.args.key.now c.all_words-words.result c.key_of_round.result c.loop-i.k
          c.loop-i.i (omega arith) inv.filled c.all_words-words.ensures c.key_of_round.ensures;
    }

pub returns : goal.returns
returns c =
    keys_end c.args.key.now c.loop-i.k c.loop-i.i c.loop-i.invariant.long (omega arith)
    c.loop-i.invariant.filled
