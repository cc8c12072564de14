-- The bytes so far and those of the requests that are left are those of all requests.
use Rattle.std.proofs.Common.{◌≡◌, ◌++◌}
use Rattle.drill_streams.specs.Drill.{requests, sent}
use Rattle.drill_streams.proofs.OneByOne.{left}
use Rattle.drill_streams.proofs.streams.client_bytes.Given as goal

abbrev pub invariant-loop-index : goal.invariant-loop-index
invariant-loop-index l = l.bytes.items ++ sent (left l.fn.n l.fn.client l.index) ≡ sent (requests l.fn.n l.fn.client)
