use Rattle.std.proofs.Common.{◌≡◌, ◌≤◌, ◌<◌, ◌-◌, ℕ}
use Rattle.vc_base.specs.Bytes.{piece}
use Rattle.aes_core.specs.Aes.{inverse_rounds}
use Rattle.aes_core.specs.Laws.Planes.{ArePlanes, block_of}
use Rattle.aes_core.proofs.rounds.decipher_eight.Given as goal

abbrev pub invariant-loop-round : goal.invariant-loop-round
invariant-loop-round l = record {
  from : 1 ≤ l.round;
  planes : ArePlanes l.x;
  done : (k : ℕ) → k < 8 → block_of l.x k ≡ inverse_rounds l.keys.schedule (piece 16 k l.group) (14 - l.round);
}
