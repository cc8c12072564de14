-- Turns leave the pass one of the same lock.
use Rattle.hist_lock.specs.Known.{IsPassOf}
use Rattle.hist_lock.proofs.tests.write_lines.Given as goal

abbrev pub invariant-loop-text : goal.invariant-loop-text
invariant-loop-text g l = IsPassOf l.lock.table.shared.table_id l.task.pass.seat
