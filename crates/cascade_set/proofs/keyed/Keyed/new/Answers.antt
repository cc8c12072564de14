use Rattle.std.proofs.Common.{ap, ◌∙◌}
use Rattle.cascade_set.specs.Laws.Layers.{layer_at, layer_undone_at}
use Rattle.cascade_set.proofs.InTurn.{in_turn, undone_in_turn}
use Rattle.cascade_set.proofs.Lawful.{three_are_lawful}
use Rattle.cascade_set.proofs.keyed.Keyed.new.Goals as goal

pub invariant_of-result : goal.invariant_of-result
invariant_of-result c = record { lawful = three_are_lawful c.layer.result c.layer-2.result c.layer-3.result }

pub returns-clause-enciphers : goal.returns-clause-enciphers
returns-clause-enciphers c n u =
    c.layer-3.ensures.enciphers n _
    ∙ ap (layer_at c.args.keys.now 2 n) (c.layer-2.ensures.enciphers n _
    ∙ ap (layer_at c.args.keys.now 1 n) (c.layer.ensures.enciphers n u))
    ∙ in_turn c.args.keys.now n u

pub returns-clause-deciphers : goal.returns-clause-deciphers
returns-clause-deciphers c n u =
    c.layer.ensures.deciphers n _
    ∙ ap (layer_undone_at c.args.keys.now 0 n) (c.layer-2.ensures.deciphers n _
    ∙ ap (layer_undone_at c.args.keys.now 1 n) (c.layer-3.ensures.deciphers n u))
    ∙ undone_in_turn c.args.keys.now n u
