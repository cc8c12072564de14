use Rattle.std.proofs.Common.{◌≡◌, ℕ, Bool, Some, refl, sym, ap, ◌∙◌, subst, take, find, None, suc, ◌+◌, arith}
use Rattle.std.proofs.lemmas.List.{take_all}
use Rattle.algorithm_names.specs.declared.algorithm.Algorithm.{Algorithm}
use Rattle.std.specs.Prelude.{slice_get}
use Rattle.algorithm_names.specs.Algorithms.{all_algorithms}
use Rattle.vc_header.specs.Laws.Tests.{is_valid}
use Rattle.header_seal.specs.Sealed.{plain_under}
use Rattle.header_try.proofs.Bodies.{false_where_not}
use Rattle.header_try.proofs.Finding.{algorithm_at, found_here, not_yet}
use Rattle.header_try.proofs.slot.try_slot.Goals as goal

pub loop-i-init : goal.loop-i-init
loop-i-init c = refl

pub returns-in-Some-clause-least : goal.returns-in-Some-clause-least
returns-in-Some-clause-least c =
    let a = c.at-algorithm.result in
    let at : slice_get all_algorithms c.loop-i.i ≡ Some a
    = subst (λ (i : ℕ). slice_get all_algorithms i ≡ Some a) c.at-algorithm.ensures (algorithm_at a) in
    sym (found_here (λ a. is_valid (plain_under a c.args.derived.now c.args.header.now) c.args.slot c.args.len)
    all_algorithms c.loop-i.i a c.loop-i.invariant at (c.in-Some.ensures.decided.0 refl))

pub loop-i-preserved : goal.loop-i-preserved
loop-i-preserved c =
    let a = c.at-algorithm.result in
    let at : slice_get all_algorithms c.loop-i.i ≡ Some a
    = subst (λ (i : ℕ). slice_get all_algorithms i ≡ Some a) c.at-algorithm.ensures (algorithm_at a) in
    let next : suc c.loop-i.i ≡ c.loop-i.i + 1 = omega arith in
    let test : Algorithm → Bool
    = λ a. is_valid (plain_under a c.args.derived.now c.args.header.now) c.args.slot c.args.len in
    subst (λ (i : ℕ). find test (take i all_algorithms) ≡ None) next
    (not_yet test all_algorithms c.loop-i.i a c.loop-i.invariant at (false_where_not _ c.in-None.ensures.decided))

pub returns-clause-least : goal.returns-clause-least
returns-clause-least c =
    let test : Algorithm → Bool
    = λ a. is_valid (plain_under a c.args.derived.now c.args.header.now) c.args.slot c.args.len in
    sym c.loop-i.invariant ∙ ap (find test) (take_all c.loop-i.i all_algorithms (omega (arith, c.loop-i-test.false)))
