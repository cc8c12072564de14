use Rattle.std.proofs.Common.{◌≡◌, ◌+◌, ◌*◌, ◌^◌, ◌<◌, length}
use Rattle.vc_base.specs.Bytes.{to_bytes}
use Rattle.cipher_base.specs.Field.{times_power}
use Rattle.cipher_base.proofs.Loops.{Filled}
use Rattle.lane_kernels.proofs.tweaks.tweak_run.Given as goal

abbrev pub invariant-loop-i : goal.invariant-loop-i
invariant-loop-i l = record {
  power : to_bytes 16 (l.low + 2 ^ 64 * l.high) ≡ times_power l.i l.fn.t;
  fits : l.low + 2 ^ 64 * l.high < 2 ^ 128;
  long : length l.out ≡ 512;
  filled : Filled 16 l.i (λ j. times_power j l.fn.t) l.out;
}
