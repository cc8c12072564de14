use Rattle.std.proofs.Common.{◌+◌, arith}
use Rattle.lane_kernels.proofs.rounds.seven_rounds.Goals as goal

pub returns : goal.returns
returns c start so_far =
    let f = c.args.first in
    let x_1 = c.round-x.ensures start (f + 1) (omega arith) so_far in
    let x_2 = c.round-x-2.ensures start (f + 2) (omega arith) x_1 in
    let x_3 = c.round-x-3.ensures start (f + 3) (omega arith) x_2 in
    let x_4 = c.round-x-4.ensures start (f + 4) (omega arith) x_3 in
    let x_5 = c.round-x-5.ensures start (f + 5) (omega arith) x_4 in
    let x_6 = c.round-x-6.ensures start (f + 6) (omega arith) x_5 in
    c.round.ensures start (f + 7) (omega arith) x_6
