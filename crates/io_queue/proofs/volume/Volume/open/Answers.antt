use Rattle.std.proofs.Common.{List, ap, sym, subst}
use Rattle.hist_lock.specs.declared.view.View.{View}
use Rattle.sector_model.specs.declared.entry.Entry.{Entry}
use Rattle.io_core.specs.Sound.{Sound}
use Rattle.io_core.specs.State.{State}
use Rattle.io_queue.proofs.volume.Volume.open.Goals as goal

pub returns-in-Ok-clause-pass : goal.returns-in-Ok-clause-pass
returns-in-Ok-clause-pass g c =
    let core : State g.row.S.Denot g.row.C.Denot = c.in_ok-core.core in (
      c.in-Ok.ensures.pass,
      record {
        base = core;
        is = ap (λ (v : View (State g.row.S.Denot g.row.C.Denot) Entry). v.base) c.in-Ok.ensures.first;
        geometry = ap (λ (s : State g.row.S.Denot g.row.C.Denot). s.geometry) c.in_ok-core.ensures.made;
        cipher = ap (λ (s : State g.row.S.Denot g.row.C.Denot). s.cipher) c.in_ok-core.ensures.made;
      },
    )

pub returns-in-Ok-clause-stands : goal.returns-in-Ok-clause-stands
returns-in-Ok-clause-stands g c =
    let core : State g.row.S.Denot g.row.C.Denot = c.in_ok-core.core in
    record {
      base = core;
      now = core;
      is = ap (λ (v : View (State g.row.S.Denot g.row.C.Denot) Entry). v.base) c.in-Ok.ensures.first;
      sound = subst (λ (h : List Entry). Sound g.S.Store g.C.UnitCipher core h core)
          (sym (ap (λ (v : View (State g.row.S.Denot g.row.C.Denot) Entry). v.seen) c.in-Ok.ensures.first)) c.in_ok-core.ensures.sound;
    }
