use Rattle.std.proofs.Common.{◌≡◌, ℕ, ◌<◌, ◌≤◌, get_or}
use Rattle.std.specs.Int.Bits.{bit_xor}
use Rattle.lane_kernels.proofs.tweaks.xor_into.Given as goal

abbrev pub invariant-loop-i : goal.invariant-loop-i
invariant-loop-i l = record {
  before : (k : ℕ) → k < l.i → get_or l.a k 0 ≡ bit_xor (get_or l.fn.a k 0) (get_or l.b k 0);
  after : (k : ℕ) → l.i ≤ k → get_or l.a k 0 ≡ get_or l.fn.a k 0;
}
