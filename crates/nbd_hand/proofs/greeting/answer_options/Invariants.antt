-- The options so far were answered, and as many more may be as are left.
use Rattle.std.proofs.Common.{◌≤◌}
use Rattle.nbd_hand.specs.Hand.{options}
use Rattle.nbd_hand.specs.Laws.Onward.{Onward}
use Rattle.nbd_hand.proofs.greeting.answer_options.Given as goal

abbrev pub invariant-options : goal.invariant-options
invariant-options g l = record {
  did : Onward (options l.size l.zeros 1024) (options l.size l.zeros l.left) (g.I.Source.left l.fn.link.source) (g.I.Source.left l.link.source)
      (g.O.Sink.contents l.fn.link.sink) (g.O.Sink.contents l.link.sink);
  read : g.I.Source.faults l.fn.link.source ≤ g.I.Source.faults l.link.source;
  written : g.O.Sink.faults l.fn.link.sink ≤ g.O.Sink.faults l.link.sink;
}

abbrev pub decreases-options : goal.decreases-options
decreases-options g l = l.left
