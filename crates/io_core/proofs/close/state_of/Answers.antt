use Rattle.std.proofs.Common.{◌+◌, ◌∷◌, List, get_or, drop, sym, ap, ◌∙◌, drop-cons, add-one}
use Rattle.std.proofs.lemmas.List.{drop_all}
use Rattle.io_core.specs.Laws.StateOf.{before_others, state_of}
use Rattle.io_core.specs.declared.part.PartState.{PartState}
use Rattle.io_core.specs.declared.part.PartState.TheVariants.{Waiting}
use Rattle.io_core.proofs.EndedMarks.{one_by_one, then_none}
use Rattle.io_core.proofs.close.state_of.Goals as goal

pub loop-part-preserved : goal.loop-part-preserved
loop-part-preserved c =
    let k = c.loop-part.part-index in
    let xs : List PartState = c.args.parts.now in
    ap (λ (x : PartState). before_others x (state_of (drop (k + 1) xs))) c.before_others-state.ensures
    ∙ one_by_one c.loop-part.state (get_or xs k Waiting) (state_of (drop (k + 1) xs))
    ∙ ap (λ (l : List PartState). before_others c.loop-part.state (state_of l)) (ap (λ n. get_or xs k Waiting ∷ drop n xs) (add-one k) ∙ sym (drop-cons xs k Waiting c.loop-part-test.true))
    ∙ c.loop-part.invariant

pub returns : goal.returns
returns c =
    sym (ap (λ (l : List PartState). before_others c.loop-part.state (state_of l)) (drop_all c.loop-part.part-index c.args.parts.now c.loop-part-test.false) ∙ then_none c.loop-part.state)
    ∙ c.loop-part.invariant
