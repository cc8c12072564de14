-- What was taken so far is the start of the bytes, up to `at`.
use Rattle.std.proofs.Common.{◌≤◌, ◌-◌, length, take}
use Rattle.vc_outside.specs.Told.{Grows}
use Rattle.nbd_hand.proofs.output.send.Given as goal

abbrev pub invariant-loop-at : goal.invariant-loop-at
invariant-loop-at g l = record {
  within : l.at ≤ length l.bytes;
  taken : Grows (g.O.Sink.contents l.fn.sink) (g.O.Sink.contents l.sink) (take l.at l.bytes);
  later : g.O.Sink.faults l.fn.sink ≤ g.O.Sink.faults l.sink;
}

abbrev pub decreases-loop-at : goal.decreases-loop-at
decreases-loop-at g l = length l.initial.bytes - l.at
