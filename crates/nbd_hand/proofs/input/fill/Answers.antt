use Rattle.std.proofs.Common.{◌≤◌, ◌-◌, length, arith}
use Rattle.nbd_hand.proofs.Streams.{put_mid-fits, shrinks_on}
use Rattle.nbd_hand.proofs.input.fill.Goals as goal

pub loop-count-preserved : goal.loop-count-preserved
loop-count-preserved g c =
    let within : c.in-Ok.n ≤ length c.read.new.buf = omega (arith, c.in-Ok.ensures.within, c.read.auto.buf) in record {
      within = put_mid-fits c.loop-count.count c.in-Ok.n (length c.loop-count.buf - c.loop-count.count) c.loop-count.buf c.read.new.buf
          c.loop-count.invariant.within within;
      given = shrinks_on _ _ _ c.loop-count.count c.in-Ok.n (length c.loop-count.buf - c.loop-count.count) c.loop-count.buf c.read.new.buf
          c.loop-count.invariant.within within c.loop-count.invariant.given c.in-Ok.ensures.given;
      later = omega (arith, c.loop-count.invariant.later, c.read.ensures.cause.later);
    }
