use Rattle.std.proofs.Common.{◌≡◌, ◌-◌, ◌≤◌, ◌%◌}
use Rattle.volume_format.specs.Stream.{advanced}
use Rattle.volume_format.proofs.Parts.{IsFilled}
use Rattle.volume_format.proofs.fill.fill.Given as goal

-- what was filled so far
abbrev pub invariant-parts : goal.invariant-parts
invariant-parts g l = record {
  inside : l.at ≤ l.fn.size;
  whole : l.at % 512 ≡ 0;
  drawn : l.rng ≡ advanced l.fn.rng l.at;
  filled : IsFilled l.fn.rng l.at (g.D.Store.image l.fn.disk) (g.D.Store.image l.disk);
  size : g.D.Store.size l.disk ≡ l.fn.size;
  later : g.D.Store.faults l.fn.disk ≤ g.D.Store.faults l.disk;
}

abbrev pub decreases-parts : goal.decreases-parts
decreases-parts g l = l.fn.size - l.at
