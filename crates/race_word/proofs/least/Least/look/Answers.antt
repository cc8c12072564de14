use Rattle.std.proofs.Common.{rules}
use Rattle.race_word.proofs.Steps.{looks}
use Rattle.race_word.proofs.least.Least.look.Goals as goal

pub load-requires : goal.load-requires
load-requires g c = (c.requires.runner.table, search rules, looks _ _ _ _ c.args.r.now.seat.me c.args.r.now.live)
