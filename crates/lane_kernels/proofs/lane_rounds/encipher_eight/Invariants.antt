use Rattle.std.proofs.Common.{◌≡◌, ◌<◌, ◌*◌, ℕ}
use Rattle.vc_base.specs.Bytes.{piece}
use Rattle.vc_base.specs.Words.{words_of}
use Rattle.lane_kernels.specs.SerpentRounds.{rounds}
use Rattle.lane_kernels.specs.Laws.Lanes.{AreLanes, lane}
use Rattle.lane_kernels.proofs.lane_rounds.encipher_eight.Given as goal

abbrev pub invariant-loop-i : goal.invariant-loop-i
invariant-loop-i l = record {
  lanes : AreLanes l.x;
  done : (j : ℕ) → j < 8 → lane j l.x ≡ rounds l.keys.k (words_of (piece 16 j l.group)) (8 * l.i);
}
