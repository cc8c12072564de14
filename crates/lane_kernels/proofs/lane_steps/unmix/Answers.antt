use Rattle.lane_kernels.proofs.Mixing.{unmixed-lanes}
use Rattle.lane_kernels.proofs.lane_steps.unmix.Goals as goal

pub returns : goal.returns
returns c = unmixed-lanes c.args.x c.requires
