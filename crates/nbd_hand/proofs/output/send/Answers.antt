use Rattle.std.proofs.Common.{arith}
use Rattle.nbd_hand.proofs.Streams.{grows_on}
use Rattle.nbd_hand.proofs.output.send.Goals as goal

pub loop-at-preserved : goal.loop-at-preserved
loop-at-preserved g c = record {
  within = omega (arith, c.in-Ok.ensures.within);
  taken = grows_on _ _ _ c.loop-at.at c.in-Ok.taken c.args.bytes.now c.loop-at.invariant.taken c.in-Ok.ensures.taken;
  later = omega (arith, c.write.ensures.cause.later);
}
