use Rattle.std.proofs.Common.{refl, ◌≡◌, ◌∷◌, [], sym, subst, arith, inl, lit≤}
use Rattle.std.specs.List.{Contains}
use Rattle.io_core.specs.declared.prepared.Prepared.{Prepared}
use Rattle.io_core.proofs.Elements.{element_right, first_element}
use Rattle.io_core.proofs.tests.with_a_write.Goals as goal

pub new-requires-clause-placed : goal.new-requires-clause-placed
new-requires-clause-placed g c =
    record { sector = inl refl; start = refl; inside = omega (arith, c.requires.disk); small = lit≤ tt }

pub returns-in-In : goal.returns-in-In
returns-in-In g c =
    let w : Prepared = c.in-Ok-new.write in
    let e = c.in-Ok-new.ensures in
    let has : Contains c.admit_write.new.self.pending w
    = subst (λ l. Contains l w) (sym (c.in-In.ensures.admitted refl)) (element_right _ (w ∷ []) w (first_element w [])) in
    (has.0, w, has.1, has.2, (e.0, e.1))
