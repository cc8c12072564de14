use Rattle.drill_streams.proofs.Counting.{CountsUp}
use Rattle.drill_streams.proofs.bytes.counting.Given as goal

abbrev pub invariant-loop-i : goal.invariant-loop-i
invariant-loop-i l = CountsUp l.fn.start l.i l.sector
