use Rattle.std.proofs.Common.{rules}
use Rattle.hist_lock.proofs.Turns.{passes}
use Rattle.hist_lock.proofs.turn.pass_on.Goals as goal

pub fetch_add-requires : goal.fetch_add-requires
fetch_add-requires g c = let h = c.requires.home in let p = c.requires.pass in (
  c.requires.table.0,
  search rules,
  passes _ _ _ _ _ g.W.Added.added h.1 h.0 p.0 p.1 h.2 p.2 h.3 h.4 c.requires.own,
)
