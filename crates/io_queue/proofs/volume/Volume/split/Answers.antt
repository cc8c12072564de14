use Rattle.io_queue.proofs.Passes.{began_after, newcomer_open, split_open}
use Rattle.io_queue.proofs.volume.Volume.split.Goals as goal

pub returns-clause-pass : goal.returns-clause-pass
returns-clause-pass g c = (c.split.ensures.pass, began_after _ _ _ _ c.split.ensures.same.base c.requires.pass.1)

pub returns-clause-new : goal.returns-clause-new
returns-clause-new g c = (c.split.ensures.new, began_after _ _ _ _ c.split.ensures.base c.requires.pass.1)

pub returns-clause-open : goal.returns-clause-open
returns-clause-open g c = let e = c.split.ensures in (
  split_open c.args.pass.now.seat.me.0 c.split.new.pass.seat.me.0 e.kept.0 e.same.number e.same.under c.requires.open,
  newcomer_open c.split.result.seat.me.0 c.split.result.own e.empty.0 e.empty.1,
)
