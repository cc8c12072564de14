use Rattle.std.proofs.Common.{rules}
use Rattle.race_word.proofs.Steps.{joins}
use Rattle.race_word.proofs.least.Least.rejoin.Goals as goal

pub join_seat-requires : goal.join_seat-requires
join_seat-requires g c = (
  c.requires.runner.table,
  c.requires.other.table,
  c.args.other.carries,
  search rules,
  joins _ _ _ c.args.r.now.seat.me.0 _ c.args.other.seat.me.0 c.args.r.now.live,
)
