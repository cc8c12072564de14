use Rattle.std.proofs.Common.{rules, []}
use Rattle.io_queue.proofs.Fragments.{same_bench}
use Rattle.io_queue.proofs.Passes.{calls}
use Rattle.io_queue.proofs.volume.Volume.take_all.Goals as goal

pub loop-preserved : goal.loop-preserved
loop-preserved g c = let i = c.loop.invariant in (
  search rules,
  search rules,
  c.deposit_job.ensures.pass,
  calls c.args.pass.now.seat.me.0 c.loop.pass.seat.me.0 c.deposit_job.new.pass.seat.me.0 [] [] i.3 c.deposit_job.ensures.call,
  λ ws o. c.deposit_job.ensures.open ws (i.4 ws o),
  same_bench c.args.bench.now c.loop.bench c.take.new.self i.5 c.take.ensures.same,
)
