use Rattle.std.proofs.Common.{◌+◌, arith}
use Rattle.lane_kernels.proofs.lane_rounds.seven_rounds.Goals as goal

pub returns-clause-done : goal.returns-clause-done
returns-clause-done c j start below so_far =
    let f = c.args.first in
    let x_1 = c.round-x.ensures.done j start (f + 1) below (omega arith) so_far in
    let x_2 = c.round-x-2.ensures.done j start (f + 2) below (omega arith) x_1 in
    let x_3 = c.round-x-3.ensures.done j start (f + 3) below (omega arith) x_2 in
    let x_4 = c.round-x-4.ensures.done j start (f + 4) below (omega arith) x_3 in
    let x_5 = c.round-x-5.ensures.done j start (f + 5) below (omega arith) x_4 in
    let x_6 = c.round-x-6.ensures.done j start (f + 6) below (omega arith) x_5 in
    c.round.ensures.done j start (f + 7) below (omega arith) x_6
