use Rattle.std.proofs.Common.{◌≡◌, ◌+◌, ◌*◌, ◌^◌, ◌<◌, length}
use Rattle.vc_base.specs.Bytes.{to_bytes}
use Rattle.cipher_base.specs.Field.{times_power}
use Rattle.cipher_base.proofs.Loops.{Filled}
use Rattle.cipher_base.proofs.xts.powers.Given as goal

abbrev pub invariant-loop-i : goal.invariant-loop-i
invariant-loop-i l = record {
  power : to_bytes 16 (l.low + 2 ^ 64 * l.high) ≡ times_power l.i l.fn.first;
  fits : l.low + 2 ^ 64 * l.high < 2 ^ 128;
  long : length l.all ≡ 512;
  filled : Filled 16 l.i (λ j. times_power j l.fn.first) l.all;
}
