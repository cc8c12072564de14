use Rattle.std.proofs.Common.{rules, []}
use Rattle.io_queue.proofs.Fragments.{same_bench}
use Rattle.io_queue.proofs.Passes.{calls}
use Rattle.io_queue.proofs.volume.Volume.push_all.Goals as goal

pub loop-job-preserved-in-Err : goal.loop-job-preserved-in-Err
loop-job-preserved-in-Err g c = let i = c.loop-job.invariant in (
  search rules,
  search rules,
  c.deposit_job.ensures.pass,
  calls c.args.pass.now.seat.me.0 c.loop-job.pass.seat.me.0 c.deposit_job.new.pass.seat.me.0 [] [] i.3 c.deposit_job.ensures.call,
  λ ws o. c.deposit_job.ensures.open ws (i.4 ws o),
  same_bench c.args.bench.now c.loop-job.bench c.push.new.self i.5 c.push.ensures.same,
)
