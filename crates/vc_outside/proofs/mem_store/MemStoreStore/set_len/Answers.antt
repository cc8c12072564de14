use Rattle.std.proofs.Common.{◌≡◌, ◌∙◌, Some, None, true, false, length, sym, subst, ap}
use Rattle.vc_outside.specs.Crash.{Relength}
use Rattle.vc_outside.specs.Memory.{called, Memory, shown}
use Rattle.vc_outside.specs.Record.{Resized}
use Rattle.vc_outside.specs.Told.{resized}
use Rattle.vc_outside.proofs.Results.{each_of, weaken}
use Rattle.vc_outside.proofs.Steps.{Follow, resize-follows, resize-long, resize-nothing, resize-shown}
use Rattle.vc_outside.proofs.mem_store.MemStoreStore.set_len.Goals as goal

pub returns-clause-resized : goal.returns-clause-resized
returns-clause-resized c =
    let old = c.args.self.now in
    let new = c.resize_by_plan.new.self in
    weaken c.resize_by_plan.result (new ≡ called (Some (Resized c.args.len)) false old) (shown new.held ≡ resized c.args.len (shown old.held)) c.resize_by_plan.ensures.ok
    (λ is. ap (λ (m : Memory). shown m.held) is ∙ resize-shown old.held c.args.len)

pub returns-clause-size : goal.returns-clause-size
returns-clause-size c =
    let old = c.args.self.now in
    let new = c.resize_by_plan.new.self in
    weaken c.resize_by_plan.result (new ≡ called (Some (Resized c.args.len)) false old) (length (shown new.held) ≡ c.args.len) c.resize_by_plan.ensures.ok
    (λ is. ap (λ (m : Memory). length (shown m.held)) is ∙ resize-long old.held c.args.len)

pub returns-clause-crash : goal.returns-clause-crash
returns-clause-crash c =
    let old = c.args.self.now in
    let new = c.resize_by_plan.new.self in
    let P : Memory → Type 0 = λ m. Follow old.held m.held (Relength c.args.len) in
    each_of c.resize_by_plan.result (new ≡ called (Some (Resized c.args.len)) false old) (new ≡ called None true old) (new ≡ called None false old) (P new)
    c.resize_by_plan.ensures.ok c.resize_by_plan.ensures.failed c.resize_by_plan.ensures.no_memory
    (λ is. subst P (sym is) (resize-follows old.held c.args.len))
    (λ is. subst P (sym is) (resize-nothing old.held c.args.len))
    (λ is. subst P (sym is) (resize-nothing old.held c.args.len))
