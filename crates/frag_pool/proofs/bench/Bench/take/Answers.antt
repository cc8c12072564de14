use Rattle.std.proofs.Common.{sym, subst}
use Rattle.frag_pool.specs.Deque.{AllGot}
use Rattle.frag_pool.specs.declared.view.View.{View}
use Rattle.frag_pool.proofs.Steps.{gets, finds, when_none}
use Rattle.frag_pool.proofs.bench.Bench.take.Goals as goal

pub pop_as-job-requires-clause-fifo : goal.pop_as-job-requires-clause-fifo
pop_as-job-requires-clause-fifo c = λ _. gets _ _

pub pop_as-job-requires-clause-empty : goal.pop_as-job-requires-clause-empty
pop_as-job-requires-clause-empty c = finds _ _

pub returns-then-is_none-clause-empty : goal.returns-then-is_none-clause-empty
returns-then-is_none-clause-empty c =
    when_none c.pop_as-job.result _ _ _ c.pop_as-job.ensures.rule
    (λ found alone. subst (λ (u : View). AllGot u.pushed u.got) (sym found.0)
    (found.1 c.args.self.now.owns (c.args.self.now.alone alone)))
