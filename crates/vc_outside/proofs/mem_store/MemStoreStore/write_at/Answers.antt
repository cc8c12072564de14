use Rattle.std.proofs.Common.{◌≡◌, ◌∙◌, length, sym, subst, is_err}
use Rattle.vc_outside.specs.Memory.{Memory, shown}
use Rattle.vc_outside.specs.Told.{SameOutside, written}
use Rattle.vc_outside.proofs.Results.{on_err, on_ok}
use Rattle.vc_outside.proofs.Steps.{Follow, write-follows, write-shown, write-written}
use Rattle.vc_outside.proofs.mem_store.MemStoreStore.write_at.Goals as goal

pub returns-clause-written : goal.returns-clause-written
returns-clause-written c =
    let old = c.args.self.now in
    on_ok c.write_by_plan-result.result (shown c.write_by_plan-result.new.self.held ≡ written c.args.at c.args.bytes.now (shown old.held)) (λ ok.
    subst (λ (m : Memory). shown m.held ≡ written c.args.at c.args.bytes.now (shown old.held)) (sym c.write_by_plan-result.ensures.called)
    (write-written old c.args.at c.args.bytes.now (is_err c.write_by_plan-result.result) c.requires (sym c.write_by_plan-result.ensures.goes ∙ ok)))

pub returns-clause-outside : goal.returns-clause-outside
returns-clause-outside c =
    let old = c.args.self.now in
    let n = length c.args.bytes.now in
    on_err c.write_by_plan-result.result (SameOutside c.args.at n (shown old.held) (shown c.write_by_plan-result.new.self.held))
    (subst (λ (m : Memory). SameOutside c.args.at n (shown old.held) (shown m.held)) (sym c.write_by_plan-result.ensures.called)
    (write-shown old c.args.at c.args.bytes.now (is_err c.write_by_plan-result.result) c.requires))

pub returns-clause-size : goal.returns-clause-size
returns-clause-size c =
    subst (λ (m : Memory). length (shown m.held) ≡ length (shown c.args.self.now.held)) (sym c.write_by_plan-result.ensures.called)
    ((write-shown c.args.self.now c.args.at c.args.bytes.now (is_err c.write_by_plan-result.result) c.requires).as_long)

pub returns-clause-crash : goal.returns-clause-crash
returns-clause-crash c =
    subst (λ (m : Memory). Follow c.args.self.now.held m.held (SameOutside c.args.at (length c.args.bytes.now))) (sym c.write_by_plan-result.ensures.called)
    (write-follows c.args.self.now c.args.at c.args.bytes.now (is_err c.write_by_plan-result.result) c.requires)
