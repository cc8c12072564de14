use Rattle.std.proofs.Common.{rules}
use Rattle.race_word.proofs.Steps.{splits}
use Rattle.race_word.proofs.least.Least.runner.Goals as goal

pub split_seat-seat-requires : goal.split_seat-seat-requires
split_seat-seat-requires g c = (c.requires.runner.table, search rules, splits _ _ _ _ c.args.r.now.live)
