use Rattle.std.proofs.Common.{◌∙◌}
use Rattle.drill_streams.proofs.Drawn.{key_filled}
use Rattle.drill_work.proofs.container.key_of.Goals as goal

pub returns : goal.returns
returns c = key_filled c.args.n _ (c.copy_from_slice.ensures.after ∙ c.to_le_bytes.ensures)
