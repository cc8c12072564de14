use Rattle.std.proofs.Common.{[], refl, ◌∙◌}
use Rattle.io_queue.proofs.Passes.{calls, no_call}
use Rattle.io_queue.proofs.volume.Volume.deposit_all.Goals as goal

pub loop-index-init : goal.loop-index-init
loop-index-init g c = (c.requires.pass, no_call c.args.pass.now.seat.me.0, λ ws o. o, refl)

pub loop-index-preserved : goal.loop-index-preserved
loop-index-preserved g c = let i = c.loop-index.invariant in (
  c.deposit_part.ensures.pass,
  calls c.args.pass.now.seat.me.0 c.loop-index.pass.seat.me.0 c.deposit_part.new.pass.seat.me.0 [] [] i.1 c.deposit_part.ensures.call,
  λ ws o. c.deposit_part.ensures.open ws (i.2 ws o),
  c.deposit_part.ensures.room ∙ i.3,
)
