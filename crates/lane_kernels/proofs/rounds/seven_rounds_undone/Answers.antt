use Rattle.std.proofs.Common.{◌-◌, arith}
use Rattle.lane_kernels.proofs.rounds.seven_rounds_undone.Goals as goal

pub returns : goal.returns
returns c end so_far =
    let f = c.args.first in
    let x_1 = c.round_undone-x.ensures end (24 - f) (25 - f) (omega arith) (omega arith) so_far in
    let x_2 = c.round_undone-x-2.ensures end (25 - f) (26 - f) (omega arith) (omega arith) x_1 in
    let x_3 = c.round_undone-x-3.ensures end (26 - f) (27 - f) (omega arith) (omega arith) x_2 in
    let x_4 = c.round_undone-x-4.ensures end (27 - f) (28 - f) (omega arith) (omega arith) x_3 in
    let x_5 = c.round_undone-x-5.ensures end (28 - f) (29 - f) (omega arith) (omega arith) x_4 in
    let x_6 = c.round_undone-x-6.ensures end (29 - f) (30 - f) (omega arith) (omega arith) x_5 in
    c.round_undone.ensures end (30 - f) (31 - f) (omega arith) (omega arith) x_6
