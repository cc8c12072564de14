use Rattle.std.proofs.Common.{rules, refl, sym, subst, arith}
use Rattle.hist_lock.specs.Laws.Steps.{Sat, Idle}
use Rattle.hist_lock.proofs.Turns.{draws}
use Rattle.hist_lock.proofs.lock.HistLock.draw.Goals as goal

pub compare_exchange-found-requires : goal.compare_exchange-found-requires
compare_exchange-found-requires g c =
    let idle = subst (λ (m : Sat g.row.T.Denot g.row.T-Entry.Denot). Idle m) (sym c.loop.invariant.3) c.requires.idle in (
      search rules,
      search rules,
      draws _ _ _ _ c.loop.seat.me c.peek-ticket.result _ idle.1 idle.2 idle.3 refl (omega arith),
    )
