use Rattle.sector_view.proofs.decipher.+decipher_halves+fn-decipher_halves-join_mut+arg2+fn-decipher_halves-join_mut+arg3.Given as goal

abbrev pub decreases-decipher_halves : goal.decreases-decipher_halves
decreases-decipher_halves g l = l.halvings

abbrev pub decreases-join_mut+arg2 : goal.decreases-join_mut+arg2
decreases-join_mut+arg2 g l = l.halvings

abbrev pub decreases-join_mut+arg3 : goal.decreases-join_mut+arg3
decreases-join_mut+arg3 g l = l.halvings
