use Rattle.std.proofs.Common.{◌≡◌, drop}
use Rattle.twofish_core.specs.Twofish.{row_times}
use Rattle.twofish_core.proofs.g.row_times.Given as goal

abbrev pub invariant-loop-i : goal.invariant-loop-i
invariant-loop-i l = l.sum ≡ row_times 0x14d (drop l.i l.row) (drop l.i l.x)
