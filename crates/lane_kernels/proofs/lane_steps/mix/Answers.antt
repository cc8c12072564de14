use Rattle.lane_kernels.proofs.Mixing.{mixed-lanes}
use Rattle.lane_kernels.proofs.lane_steps.mix.Goals as goal

pub returns : goal.returns
returns c = mixed-lanes c.args.x c.requires
