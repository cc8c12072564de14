use Rattle.std.proofs.Common.{arith}
use Rattle.lane_kernels.proofs.RoundByRound.{one_more_undone}
use Rattle.lane_kernels.proofs.rounds.round_undone.Goals as goal

pub returns : goal.returns
returns c end m n at next so_far =
    one_more_undone c.args.keys.now.k end c.args.r m n c.args.k c.args.x _ _ _ (omega arith)
    (omega arith) c.requires.through c.unmix.ensures c.unboxed.ensures c.with_key.ensures so_far
