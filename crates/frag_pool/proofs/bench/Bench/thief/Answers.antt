use Rattle.frag_pool.proofs.Steps.{forks}
use Rattle.frag_pool.proofs.bench.Bench.thief.Goals as goal

pub another-pass-requires : goal.another-pass-requires
another-pass-requires c = forks _ _
