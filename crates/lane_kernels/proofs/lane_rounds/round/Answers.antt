use Rattle.std.proofs.Common.{arith}
use Rattle.lane_kernels.specs.Laws.Lanes.{lane}
use Rattle.lane_kernels.proofs.RoundByRound.{one_more}
use Rattle.lane_kernels.proofs.lane_rounds.round.Goals as goal

pub returns-clause-done : goal.returns-clause-done
returns-clause-done c j start n below next so_far =
    one_more c.args.keys.now.k start c.args.r n c.args.k (lane j c.args.x) _ _ _ (omega arith)
    c.requires.through (c.with_key.ensures.each j below) (c.boxed.ensures.each j below)
    (c.mix.ensures.each j below) so_far
