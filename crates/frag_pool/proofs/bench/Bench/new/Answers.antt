use Rattle.frag_pool.proofs.Steps.{begins}
use Rattle.frag_pool.proofs.bench.Bench.new.Goals as goal

pub fifo_as-requires : goal.fifo_as-requires
fifo_as-requires c = begins
