use Rattle.std.proofs.Common.{◌≡◌, ◌≤◌, ◌*◌, ◌-◌}
use Rattle.vc_base.specs.Words.{words_of}
use Rattle.lane_kernels.specs.SerpentRounds.{inverse_rounds}
use Rattle.lane_kernels.proofs.rounds.decipher.Given as goal

abbrev pub invariant-loop-i : goal.invariant-loop-i
invariant-loop-i l = record {
  within : l.i ≤ 3;
  undone : l.x ≡ inverse_rounds l.keys.k (words_of l.fn.block) (31 - 8 * l.i);
}
