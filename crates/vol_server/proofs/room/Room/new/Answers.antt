use Rattle.std.proofs.Common.{sym, ◌∙◌}
use Rattle.std.proofs.lemmas.List.Elements.{All-weaker}
use Rattle.frag_pool.specs.Bench.{IsNewBench}
use Rattle.vol_server.specs.Laws.Tasks.{IsEmptyBench}
use Rattle.vol_server.proofs.room.Room.new.Goals as goal

pub returns-clause-benches : goal.returns-clause-benches
returns-clause-benches g c = (
  sym c.in_ok-benches.benches.ok.0 ∙ c.in_ok-benches.ensures.benches,
  All-weaker (IsNewBench c.args.helpers) IsEmptyBench (λ b new. new.empty) c.in_ok-benches.benches.items c.in_ok-benches.ensures.new_benches,
)
