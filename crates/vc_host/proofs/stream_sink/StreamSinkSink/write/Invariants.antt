use Rattle.std.proofs.Common.{◌≡◌}
use Rattle.vc_host.proofs.stream_sink.StreamSinkSink.write.Given as goal

abbrev pub invariant-tries : goal.invariant-tries
invariant-tries g l = l.self.faults ≡ l.fn.self.faults
