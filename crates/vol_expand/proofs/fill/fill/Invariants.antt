use Rattle.std.proofs.Common.{◌≡◌, ◌-◌, ◌≤◌, ◌%◌}
use Rattle.volume_format.specs.Stream.{advanced}
use Rattle.header_change.specs.Moments.{AtEachMoment}
use Rattle.vol_expand.specs.Stops.{Grows}
use Rattle.vol_expand.proofs.Filling.{IsFilled}
use Rattle.vol_expand.proofs.fill.fill.Given as goal

-- what was filled so far, in whole words
abbrev pub invariant-parts : goal.invariant-parts
invariant-parts g l = record {
  behind : l.fn.from ≤ l.at;
  inside : l.at ≤ l.fn.size;
  whole : (l.at - l.fn.from) % 4 ≡ 0;
  drawn : l.rng ≡ advanced l.fn.rng (l.at - l.fn.from);
  filled : IsFilled l.fn.rng l.fn.from (l.at - l.fn.from) (g.D.Store.image l.fn.disk) (g.D.Store.image l.disk);
  size : g.D.Store.size l.disk ≡ l.fn.size;
  later : g.D.Store.faults l.fn.disk ≤ g.D.Store.faults l.disk;
  crash : AtEachMoment g.D.Store.tells (g.D.Store.moment l.fn.disk) (g.D.Store.moment l.disk)
      (g.D.Store.left_since l.fn.disk) (g.D.Store.left_since l.disk)
      (g.D.Store.may_leave l.fn.disk) (g.D.Store.may_leave l.disk) (Grows l.fn.from l.fn.size);
}

abbrev pub decreases-parts : goal.decreases-parts
decreases-parts g l = l.fn.size - l.at
