use Rattle.std.proofs.Common.{arith}
use Rattle.lane_kernels.specs.Laws.Lanes.{lane}
use Rattle.lane_kernels.proofs.RoundByRound.{one_more_undone}
use Rattle.lane_kernels.proofs.lane_rounds.round_undone.Goals as goal

pub returns-clause-undone : goal.returns-clause-undone
returns-clause-undone c j end m n below at next so_far =
    one_more_undone c.args.keys.now.k end c.args.r m n c.args.k (lane j c.args.x) _ _ _ (omega arith)
    (omega arith) c.requires.through (c.unmix.ensures.each j below)
    (c.unboxed.ensures.each j below) (c.with_key.ensures.each j below) so_far
