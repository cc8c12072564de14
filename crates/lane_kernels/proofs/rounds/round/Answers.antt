use Rattle.std.proofs.Common.{arith}
use Rattle.lane_kernels.proofs.RoundByRound.{one_more}
use Rattle.lane_kernels.proofs.rounds.round.Goals as goal

pub returns : goal.returns
returns c start n next so_far =
    one_more c.args.keys.now.k start c.args.r n c.args.k c.args.x _ _ _ (omega arith)
    c.requires.through c.with_key.ensures c.boxed.ensures c.mix.ensures so_far
