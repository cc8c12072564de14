use Rattle.std.proofs.Common.{rules, ◌≡◌, [], refl, sym, subst}
use Rattle.hist_lock.specs.Laws.Steps.{Sat, Idle}
use Rattle.hist_lock.proofs.Splitting.{names}
use Rattle.hist_lock.proofs.lock.HistLock.name.Goals as goal

pub compare_exchange-found-requires : goal.compare_exchange-found-requires
compare_exchange-found-requires g c =
    let idle = subst (λ (m : Sat g.row.T.Denot g.row.T-Entry.Denot). Idle m × (m.0.spare ≡ [])) (sym c.loop.invariant.3) c.requires.idle in (
      search rules,
      search rules,
      names _ _ _ _ c.loop.seat.me c.peek-number.result _ idle.0.1 idle.0.2 idle.0.3 idle.1 refl,
    )
