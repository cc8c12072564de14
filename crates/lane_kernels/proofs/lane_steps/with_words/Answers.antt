use Rattle.std.proofs.Common.{arith}
use Rattle.vc_base.proofs.FourWords.{are_words}
use Rattle.lane_kernels.proofs.LaneByLane.{words_added}
use Rattle.lane_kernels.proofs.lane_steps.with_words.Goals as goal

pub returns : goal.returns
returns c =
    words_added c.args.key c.args.x (are_words c.args.key (omega arith) (omega arith) (omega arith)
    (omega arith) (omega arith)) c.requires
