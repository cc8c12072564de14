use Rattle.std.proofs.Common.{sym, subst}
use Rattle.io_queue.specs.Closed.{IsLeft}
use Rattle.io_queue.specs.Pass.{NothingOpen}
use Rattle.io_queue.proofs.Closing.{left, none_pending}
use Rattle.io_queue.proofs.volume.Volume.close.Goals as goal

pub into_store-requires : goal.into_store-requires
into_store-requires g c = let e = c.in-Ok.ensures in
    none_pending g.S.Store g.C.UnitCipher c.in-Ok.pass.seat.me.0 e.value.0 c.in-Ok.core e.value.2 e.callers
    (subst NothingOpen (sym e.pass) c.requires.open)

pub returns-in-Ok-clause-left : goal.returns-in-Ok-clause-left
returns-in-Ok-clause-left g c = let e = c.in-Ok.ensures in
    subst (IsLeft g.S.Store g.C.UnitCipher c.in-Ok.pass.seat.me.0) (sym c.into_store.ensures)
    (left g.S.Store g.C.UnitCipher c.in-Ok.pass.seat.me.0 e.value.0 c.in-Ok.core e.value.2 e.callers
    (subst NothingOpen (sym e.pass) c.requires.open) e.value.1)
