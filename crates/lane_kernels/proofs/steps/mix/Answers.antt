use Rattle.lane_kernels.proofs.Mixing.{mixed-is}
use Rattle.lane_kernels.proofs.steps.mix.Goals as goal

pub returns : goal.returns
returns c = mixed-is c.args.x
