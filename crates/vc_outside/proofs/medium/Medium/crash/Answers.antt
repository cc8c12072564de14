use Rattle.std.proofs.Common.{◌≡◌, ℕ, List, sym, subst, Result, IfOk, Ok, Err, Vec}
use Rattle.std.specs.declared.alloc.AllocError.{AllocError}
use Rattle.std.specs.declared.alloc.Global.{Global}
use Rattle.vc_outside.specs.Memory.{Held, May}
use Rattle.vc_outside.specs.Record.{crashed}
use Rattle.vc_outside.proofs.ReadIsRecorded.{may-crash}
use Rattle.vc_outside.proofs.medium.Medium.crash.Goals as goal

may : (h : Held) (xs : List ℕ) (r : Result (Vec ℕ Global) AllocError) → May h xs → IfOk r (λ v. v.items ≡ xs) → IfOk r (λ v. May h v.items)
may h xs (Ok v) here is = subst (May h) (sym is) here
may h xs (Err e) here is = tt

pub returns-clause-may_leave : goal.returns-clause-may_leave
returns-clause-may_leave c =
    let h : Held = record { first = c.self.inside.first.items; events = c.self.inside.log.events; places = c.self.inside.log.places; room = c.self.inside.log.room } in
    let first = c.self.inside.first.items in
    subst (λ (i : Held). IfOk c.crash.result (λ v. May i v.items)) c.self.view_is
    (may h (crashed c.args.pick h.events first first) c.crash.result (may-crash c.args.pick h c.self.invariant.sound)
    (subst (λ (l : List ℕ). IfOk c.crash.result (λ v. v.items ≡ crashed c.args.pick h.events l l)) c.deref.ensures.value c.crash.ensures))
