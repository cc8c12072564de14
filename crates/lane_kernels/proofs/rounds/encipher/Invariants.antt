use Rattle.std.proofs.Common.{◌≡◌, ◌*◌}
use Rattle.vc_base.specs.Words.{words_of}
use Rattle.lane_kernels.specs.SerpentRounds.{rounds}
use Rattle.lane_kernels.proofs.rounds.encipher.Given as goal

abbrev pub invariant-loop-i : goal.invariant-loop-i
invariant-loop-i l = l.x ≡ rounds l.keys.k (words_of l.fn.block) (8 * l.i)
