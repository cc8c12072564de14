use Rattle.std.proofs.Common.{◌≡◌, length}
use Rattle.cipher_base.proofs.Loops.{Filled}
use Rattle.vc_base.specs.Words.{block_of}
use Rattle.lane_kernels.specs.Laws.Lanes.{lane}
use Rattle.lane_kernels.proofs.gather.scatter.Given as goal

abbrev pub invariant-loop-j : goal.invariant-loop-j
invariant-loop-j l = record {
  long : length l.group ≡ 128;
  filled : Filled 16 l.j (λ i. block_of (lane i l.fn.x)) l.group;
}
