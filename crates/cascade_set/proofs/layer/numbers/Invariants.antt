use Rattle.std.proofs.Common.{◌≡◌, ◌+◌, length}
use Rattle.vc_base.specs.Bytes.{to_bytes}
use Rattle.cipher_base.proofs.Loops.{Filled}
use Rattle.cascade_set.proofs.layer.numbers.Given as goal

abbrev pub invariant-loop-i : goal.invariant-loop-i
invariant-loop-i l = record {
  long : length l.all ≡ 128;
  filled : Filled 16 l.i (λ j. to_bytes 16 (l.unit + j)) l.all;
}
