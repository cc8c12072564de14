use Rattle.std.proofs.Common.{sym, subst}
use Rattle.std.specs.List.{Any}
use Rattle.sector_model.specs.History.{HasName}
use Rattle.io_core.specs.State.{write_of}
use Rattle.io_core.proofs.tests.a_read_waits_for_the_end_of_a_write.Goals as goal

pub close_write-requires : goal.close_write-requires
close_write-requires g c =
    let first = subst (Any (λ p. HasName 1 0 (write_of p))) (sym c.read_back.ensures) c.in-Some.ensures in
    let deposited = c.hand_in-3.ensures (c.hand_in-2.ensures (c.hand_in.ensures first)) in
    record { pending = subst (Any (λ p. HasName 1 0 (write_of p))) (sym c.read_back-2.ensures) deposited }
