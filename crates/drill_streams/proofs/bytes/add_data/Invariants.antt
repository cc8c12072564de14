-- So many sectors were added.
use Rattle.std.proofs.Common.{◌≡◌, ◌++◌, ◌/◌}
use Rattle.vc_base.specs.Bytes.{joined}
use Rattle.drill_streams.proofs.Counting.{sector_from}
use Rattle.drill_streams.proofs.bytes.add_data.Given as goal

abbrev pub invariant-loop : goal.invariant-loop
invariant-loop l = l.bytes.items ≡ l.fn.bytes.items ++ joined (λ _. sector_from (l.fn.word / 16777216)) l.counter
