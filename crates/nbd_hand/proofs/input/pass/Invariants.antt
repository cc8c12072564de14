-- What was skipped so far.
use Rattle.std.proofs.Common.{◌≡◌, ◌≤◌, ◌+◌, ℕ, List, length}
use Rattle.vc_outside.specs.Told.{Shrinks}
use Rattle.nbd_hand.proofs.input.pass.Given as goal

abbrev pub invariant-parts : goal.invariant-parts
invariant-parts g l = record {
  given : (xs : List ℕ) × Shrinks (g.I.Source.left l.fn.source) (g.I.Source.left l.source) xs × (length xs + l.left ≡ l.fn.n);
  later : g.I.Source.faults l.fn.source ≤ g.I.Source.faults l.source;
}

abbrev pub decreases-parts : goal.decreases-parts
decreases-parts g l = l.left
