use Rattle.std.proofs.Common.{◌≡◌, ◌<◌, ℕ, [], ◌∷◌, length}
use Rattle.vc_base.specs.Bytes.{piece}
use Rattle.vc_base.specs.Words.{words_of}
use Rattle.lane_kernels.specs.Laws.Lanes.{lane}
use Rattle.lane_kernels.proofs.gather.gather.Given as goal

abbrev pub invariant-loop-j : goal.invariant-loop-j
invariant-loop-j l = record {
  long_a : length l.a ≡ 8;
  long_b : length l.b ≡ 8;
  long_c : length l.c ≡ 8;
  long_d : length l.d ≡ 8;
  states : (k : ℕ) → k < l.j → lane k (l.a ∷ l.b ∷ l.c ∷ l.d ∷ []) ≡ words_of (piece 16 k l.group);
}
