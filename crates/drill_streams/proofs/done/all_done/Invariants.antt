-- The replies all say done if and only if those that are left do.
use Rattle.std.specs.Prelude.{◌↔◌}
use Rattle.drill_streams.specs.Drill.{requests}
use Rattle.drill_streams.specs.Done.{AreDone}
use Rattle.drill_streams.proofs.OneByOne.{left}
use Rattle.drill_streams.proofs.done.all_done.Given as goal

abbrev pub invariant-loop-index : goal.invariant-loop-index
invariant-loop-index l = AreDone (requests l.fn.n l.fn.client) l.fn.replies ↔ AreDone (left l.fn.n l.fn.client l.index) l.rest
