use Rattle.lane_kernels.specs.SerpentRounds.{add_key}
use Rattle.lane_kernels.proofs.lane_steps.with_key.Goals as goal

pub returns : goal.returns
unfolding add_key
returns c = c.with_words.ensures
