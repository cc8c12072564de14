use Rattle.std.proofs.Common.{◌≡◌, ◌≤◌, length}
use Rattle.vcserve.proofs.secrets.read_up_to.Given as goal

abbrev pub invariant-loop : goal.invariant-loop
invariant-loop l = record {
  within : l.len ≤ length l.buffer;
  as_long : length l.buffer ≡ length l.fn.buffer;
}
