use Rattle.io_core.proofs.tests.end_in_order.Goals as goal

pub close_write-end-requires : goal.close_write-end-requires
close_write-end-requires c = record { pending = c.hand_in-three.ensures (c.hand_in-two.ensures (c.hand_in-one.ensures c.requires)) }
