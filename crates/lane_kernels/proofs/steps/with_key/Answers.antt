use Rattle.std.proofs.Common.{refl}
use Rattle.lane_kernels.specs.SerpentRounds.{add_key}
use Rattle.lane_kernels.proofs.steps.with_key.Goals as goal

pub returns : goal.returns
unfolding add_key
returns c = refl
