use Rattle.lane_kernels.proofs.Mixing.{unmixed-is}
use Rattle.lane_kernels.proofs.steps.unmix.Goals as goal

pub returns : goal.returns
returns c = unmixed-is c.args.x
