use Rattle.frag_pool.proofs.Steps.{sends}
use Rattle.frag_pool.proofs.bench.Bench.push.Goals as goal

pub push_as-requires-clause-pushes : goal.push_as-requires-clause-pushes
push_as-requires-clause-pushes c = sends _ _ _ c.args.self.now.owns
