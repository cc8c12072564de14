use Rattle.std.proofs.Common.{◌-◌, arith}
use Rattle.lane_kernels.proofs.lane_rounds.seven_rounds_undone.Goals as goal

pub returns-clause-undone : goal.returns-clause-undone
returns-clause-undone c j end below so_far =
    let f = c.args.first in
    let x_1 = c.round_undone-x.ensures.undone j end (24 - f) (25 - f) below (omega arith) (omega arith) so_far in
    let x_2 = c.round_undone-x-2.ensures.undone j end (25 - f) (26 - f) below (omega arith) (omega arith) x_1 in
    let x_3 = c.round_undone-x-3.ensures.undone j end (26 - f) (27 - f) below (omega arith) (omega arith) x_2 in
    let x_4 = c.round_undone-x-4.ensures.undone j end (27 - f) (28 - f) below (omega arith) (omega arith) x_3 in
    let x_5 = c.round_undone-x-5.ensures.undone j end (28 - f) (29 - f) below (omega arith) (omega arith) x_4 in
    let x_6 = c.round_undone-x-6.ensures.undone j end (29 - f) (30 - f) below (omega arith) (omega arith) x_5 in
    c.round_undone.ensures.undone j end (30 - f) (31 - f) below (omega arith) (omega arith) x_6
