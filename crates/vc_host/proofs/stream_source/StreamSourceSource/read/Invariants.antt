use Rattle.std.proofs.Common.{◌≡◌, length}
use Rattle.vc_host.proofs.stream_source.StreamSourceSource.read.Given as goal

abbrev pub invariant-tries : goal.invariant-tries
invariant-tries g l = record {
  same : l.self.faults ≡ l.fn.self.faults;
  as_long : length l.buf ≡ length l.fn.buf;
}
