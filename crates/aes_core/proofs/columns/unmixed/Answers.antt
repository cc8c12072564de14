use Rattle.aes_core.proofs.Mixing.{unmixed_is}
use Rattle.aes_core.proofs.columns.unmixed.Goals as goal

pub returns : goal.returns
returns c =
    unmixed_is c.args.x _ _ _ _ _ c.two_below.ensures c.added.ensures c.quadrupled.ensures c.added-2.ensures c.mixed.ensures
