use Rattle.std.proofs.Common.{ℕ, ◌<◌, get_or}
use Rattle.sector_model.specs.History.{HasName}
use Rattle.io_core.specs.State.{write_of}
use Rattle.io_core.specs.declared.prepared.Prepared.{Prepared}
use Rattle.io_core.proofs.pending.place_of.Given as goal

abbrev pub invariant-loop-i : goal.invariant-loop-i
invariant-loop-i l = (k : ℕ) (d : Prepared) → k < l.i → HasName l.caller l.number (write_of (get_or l.pending k d)) → ⊥
