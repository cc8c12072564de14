use Rattle.std.proofs.Common.{◌≡◌, ◌+◌, length}
use Rattle.vc_base.specs.Bytes.{to_bytes}
use Rattle.cipher_base.proofs.Loops.{Filled}
use Rattle.cipher_base.proofs.xts.Xts.first_tweaks.Given as goal

abbrev pub invariant-loop-i : goal.invariant-loop-i
invariant-loop-i g l = record {
  long : length l.tweaks ≡ 512;
  filled : Filled 16 l.i (λ j. to_bytes 16 (l.unit + j)) l.tweaks;
}
