use Rattle.std.proofs.Common.{rules, sym, subst}
use Rattle.hist_lock.specs.Laws.Steps.{Sat, Waits}
use Rattle.hist_lock.proofs.Turns.{looks}
use Rattle.hist_lock.proofs.lock.HistLock.wait.Goals as goal

pub load-serving-requires : goal.load-serving-requires
load-serving-requires g c =
    let waits = subst (λ (m : Sat g.row.T.Denot g.row.T-Entry.Denot). Waits c.args.ticket m) (sym c.loop.invariant.3) c.requires.waits in (
      search rules,
      search rules,
      looks _ _ _ _ c.loop.seat.me waits.1 waits.2 waits.3 waits.0,
    )
