-- What was taken so far is the front of the bytes up to `at`.
use Rattle.std.proofs.Common.{◌≤◌, ◌-◌, length, take}
use Rattle.vc_outside.specs.Told.{Grows}
use Rattle.vc_app.proofs.output.write_all.Given as goal

abbrev pub invariant-loop-at : goal.invariant-loop-at
invariant-loop-at g l = record {
  within : l.at ≤ length l.bytes;
  taken : Grows (g.O.Sink.contents l.fn.out) (g.O.Sink.contents l.out) (take l.at l.bytes);
  later : g.O.Sink.faults l.fn.out ≤ g.O.Sink.faults l.out;
}

abbrev pub decreases-loop-at : goal.decreases-loop-at
decreases-loop-at g l = length l.initial.bytes - l.at
