use Rattle.std.proofs.Common.{arith}
use Rattle.vc_base.proofs.FourWords.{are_words}
use Rattle.lane_kernels.proofs.Boxes.{i0-is, i1-is, i2-is, i3-is, i4-is, i5-is, i6-is, i7-is}
use Rattle.lane_kernels.proofs.steps.unboxed.Goals as goal

pub returns-in-0 : goal.returns-in-0
returns-in-0 c = i0-is.on_state c.args.k c.args.x (omega arith) (are_words c.args.x (omega arith)
    (omega arith) (omega arith) (omega arith) (omega arith))

pub returns-in-1 : goal.returns-in-1
returns-in-1 c = i1-is.on_state c.args.k c.args.x (omega arith) (are_words c.args.x (omega arith)
    (omega arith) (omega arith) (omega arith) (omega arith))

pub returns-in-2 : goal.returns-in-2
returns-in-2 c = i2-is.on_state c.args.k c.args.x (omega arith) (are_words c.args.x (omega arith)
    (omega arith) (omega arith) (omega arith) (omega arith))

pub returns-in-3 : goal.returns-in-3
returns-in-3 c = i3-is.on_state c.args.k c.args.x (omega arith) (are_words c.args.x (omega arith)
    (omega arith) (omega arith) (omega arith) (omega arith))

pub returns-in-4 : goal.returns-in-4
returns-in-4 c = i4-is.on_state c.args.k c.args.x (omega arith) (are_words c.args.x (omega arith)
    (omega arith) (omega arith) (omega arith) (omega arith))

pub returns-in-5 : goal.returns-in-5
returns-in-5 c = i5-is.on_state c.args.k c.args.x (omega arith) (are_words c.args.x (omega arith)
    (omega arith) (omega arith) (omega arith) (omega arith))

pub returns-in-6 : goal.returns-in-6
returns-in-6 c = i6-is.on_state c.args.k c.args.x (omega arith) (are_words c.args.x (omega arith)
    (omega arith) (omega arith) (omega arith) (omega arith))

pub returns-in_default : goal.returns-in_default
returns-in_default c = i7-is.on_state c.args.k c.args.x (omega arith) (are_words c.args.x (omega arith)
    (omega arith) (omega arith) (omega arith) (omega arith))
