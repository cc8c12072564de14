use Rattle.std.proofs.Common.{arith}
use Rattle.vc_base.proofs.FourWords.{are_words}
use Rattle.lane_kernels.proofs.Boxes.{s0-is, s1-is, s2-is, s3-is, s4-is, s5-is, s6-is, s7-is}
use Rattle.lane_kernels.proofs.steps.boxed.Goals as goal

pub returns-in-0 : goal.returns-in-0
returns-in-0 c = s0-is.on_state c.args.k c.args.x (omega arith) (are_words c.args.x (omega arith)
    (omega arith) (omega arith) (omega arith) (omega arith))

pub returns-in-1 : goal.returns-in-1
returns-in-1 c = s1-is.on_state c.args.k c.args.x (omega arith) (are_words c.args.x (omega arith)
    (omega arith) (omega arith) (omega arith) (omega arith))

pub returns-in-2 : goal.returns-in-2
returns-in-2 c = s2-is.on_state c.args.k c.args.x (omega arith) (are_words c.args.x (omega arith)
    (omega arith) (omega arith) (omega arith) (omega arith))

pub returns-in-3 : goal.returns-in-3
returns-in-3 c = s3-is.on_state c.args.k c.args.x (omega arith) (are_words c.args.x (omega arith)
    (omega arith) (omega arith) (omega arith) (omega arith))

pub returns-in-4 : goal.returns-in-4
returns-in-4 c = s4-is.on_state c.args.k c.args.x (omega arith) (are_words c.args.x (omega arith)
    (omega arith) (omega arith) (omega arith) (omega arith))

pub returns-in-5 : goal.returns-in-5
returns-in-5 c = s5-is.on_state c.args.k c.args.x (omega arith) (are_words c.args.x (omega arith)
    (omega arith) (omega arith) (omega arith) (omega arith))

pub returns-in-6 : goal.returns-in-6
returns-in-6 c = s6-is.on_state c.args.k c.args.x (omega arith) (are_words c.args.x (omega arith)
    (omega arith) (omega arith) (omega arith) (omega arith))

pub returns-in_default : goal.returns-in_default
returns-in_default c = s7-is.on_state c.args.k c.args.x (omega arith) (are_words c.args.x (omega arith)
    (omega arith) (omega arith) (omega arith) (omega arith))
