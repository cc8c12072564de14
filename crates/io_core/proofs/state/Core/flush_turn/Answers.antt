use Rattle.std.proofs.Common.{◌<◌, ℕ, ◌^◌, refl, sym, subst}
use Rattle.io_core.specs.State.{State}
use Rattle.io_core.specs.Sound.{Sound}
use Rattle.io_core.proofs.Flushed.{lasting_kept, sound_flushed, sound_unflushed}
use Rattle.io_core.proofs.OneMoreMark.{mark_of_call}
use Rattle.io_core.proofs.state.Core.flush_turn.Goals as goal

pub returns-in-Err-clause-sound : goal.returns-in-Err-clause-sound
returns-in-Err-clause-sound g c base h caller number sound =
    let fits : g.S.Store.faults c.sync.new.self < 2 ^ 64 = subst (λ (n : ℕ). n < 2 ^ 64) c.faults-after.ensures c.faults-after.type_inv in
    sound_unflushed g.S.Store g.C.UnitCipher base h caller number 0 0 _ c.sync.new.self c.in-Err.ensures.size c.in-Err.ensures.image
    c.in-Err.ensures.cause.later _
    (mark_of_call (g.S.Store.faults c.self.inside.disk) (g.S.Store.faults c.sync.new.self) _ _ c.faults-before.ensures c.faults-after.ensures
    c.in-Err.ensures.cause.later fits (c.in-Err.ensures.cause.rose refl))
    (lasting_kept g.S.Store.tells _ _ _ _ (g.S.Store.may_leave c.self.inside.disk) (g.S.Store.may_leave c.sync.new.self) _ _
    c.in-Err.ensures.image c.in-Err.ensures.crash (g.met.S.Store.image_may_stay c.sync.new.self))
    (subst (λ (s : State _ _). Sound g.S.Store g.C.UnitCipher base h s) (sym c.self.view_is) sound)

pub returns-clause-sound : goal.returns-clause-sound
returns-clause-sound g c base h caller number sound =
    sound_flushed g.S.Store g.C.UnitCipher base h caller number _ c.sync.new.self c.in_default.ensures.size c.in_default.ensures.image
    c.in_default.ensures.cause.later c.in_default.ensures.lasting
    (subst (λ (s : State _ _). Sound g.S.Store g.C.UnitCipher base h s) (sym c.self.view_is) sound)
