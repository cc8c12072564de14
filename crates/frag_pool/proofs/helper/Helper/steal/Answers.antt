use Rattle.std.proofs.Common.{rules, ◌<◌, List, length, map, set, ◌∙◌, subst}
use Rattle.frag_pool.specs.Bench.{stolen_from, OneMore}
use Rattle.frag_pool.specs.declared.view.Won.{Won}
use Rattle.frag_pool.specs.declared.helper.Thief.{Thief}
use Rattle.frag_pool.proofs.Thieves.{one_stolen, none_stolen}
use Rattle.frag_pool.proofs.helper.Helper.steal.Goals as goal

pub loop-i-preserved : goal.loop-i-preserved
loop-i-preserved g c =
    none_stolen c.loop-i.self.thieves.items c.loop-i.i c.index_mut.result.now c.steal.new.self
    c.index_mut.ensures.value c.in_default.ensures.none
    ∙ c.loop-i.invariant

pub returns-in-Some-clause-got : goal.returns-in-Some-clause-got
returns-in-Some-clause-got g c =
    let thieves : List Thief = c.loop-i.self.thieves.items in
    let inside : c.loop-i.i < length thieves = search rules in
    subst (λ (l : List (List Won)). OneMore c.in-Some.job l (map stolen_from (set thieves c.loop-i.i c.steal.new.self)))
    c.loop-i.invariant
    (one_stolen thieves c.loop-i.i c.index_mut.result.now c.steal.new.self c.in-Some.job inside
    c.index_mut.ensures.value c.in-Some.ensures.got)
