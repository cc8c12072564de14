use Rattle.std.proofs.Common.{sym, subst}
use Rattle.std.specs.List.{Any}
use Rattle.sector_model.specs.History.{HasName}
use Rattle.io_core.specs.State.{write_of}
use Rattle.io_core.proofs.tests.is_waiting.Goals as goal

pub returns-in-Waiting : goal.returns-in-Waiting
returns-in-Waiting c _ = subst (Any (λ p. HasName 1 0 (write_of p))) (sym c.in-Waiting.ensures.closed.now) c.requires
