-- The counts so far and those of the requests that are left are all counts.
use Rattle.std.proofs.Common.{◌≡◌, ◌≤◌, ◌+◌, ◌*◌}
use Rattle.drill_streams.specs.Drill.{count_of_writes, reads_in, requests, sectors_in}
use Rattle.drill_streams.proofs.OneByOne.{left}
use Rattle.drill_streams.proofs.streams.counted.Given as goal

abbrev pub invariant-loop-index : goal.invariant-loop-index
invariant-loop-index l = record {
  of_reads : l.reads + reads_in (left l.fn.n l.fn.client l.index) ≡ reads_in (requests l.fn.n l.fn.client);
  of_writes : l.writes + count_of_writes (left l.fn.n l.fn.client l.index) ≡ count_of_writes (requests l.fn.n l.fn.client);
  of_sectors : l.sectors + sectors_in (left l.fn.n l.fn.client l.index) ≡ sectors_in (requests l.fn.n l.fn.client);
  few_reads : l.reads ≤ l.index;
  few_writes : l.writes ≤ l.index;
  few_sectors : l.sectors ≤ 1536 * l.index;
}
