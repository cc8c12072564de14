use Rattle.aes_core.proofs.Mixing.{mixed_is}
use Rattle.aes_core.proofs.columns.mixed.Goals as goal

pub returns : goal.returns
returns c =
    mixed_is c.args.x _ _ _ _ _ _ c.one_below-below.ensures c.added-sums.ensures c.doubled.ensures c.added.ensures
    c.two_below.ensures c.added-2.ensures
