use Rattle.std.proofs.Common.{◌≡◌, drop}
use Rattle.io_core.specs.Laws.StateOf.{before_others, state_of}
use Rattle.io_core.proofs.close.state_of.Given as goal

abbrev pub invariant-loop-part : goal.invariant-loop-part
invariant-loop-part l = before_others l.state (state_of (drop l.part-index l.parts)) ≡ state_of l.parts
