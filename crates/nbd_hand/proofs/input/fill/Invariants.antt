-- What the source gave so far is at the start of the buffer.
use Rattle.std.proofs.Common.{◌≤◌, ◌-◌, length, take}
use Rattle.vc_outside.specs.Told.{Shrinks}
use Rattle.nbd_hand.proofs.input.fill.Given as goal

abbrev pub invariant-loop-count : goal.invariant-loop-count
invariant-loop-count g l = record {
  within : l.count ≤ length l.buf;
  given : Shrinks (g.I.Source.left l.fn.source) (g.I.Source.left l.source) (take l.count l.buf);
  later : g.I.Source.faults l.fn.source ≤ g.I.Source.faults l.source;
}

abbrev pub decreases-loop-count : goal.decreases-loop-count
decreases-loop-count g l = l.initial.least - l.count
