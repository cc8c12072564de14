use Rattle.std.proofs.Common.{rules, refl, ◌≡◌, ◌∷◌, [], length, sym, ap, subst, ◌∙◌, arith, inl, lit≤}
use Rattle.std.specs.List.{Contains}
use Rattle.vc_outside.specs.Record.{read_after}
use Rattle.vc_outside.specs.Memory.{Memory, shown}
use Rattle.io_core.specs.declared.prepared.Prepared.{Prepared}
use Rattle.io_core.proofs.Elements.{element_right, first_element}
use Rattle.io_core.proofs.tests.with_three_fragments.Goals as goal

pub new-requires-2-clause-placed : goal.new-requires-2-clause-placed
unfolding read_after
new-requires-2-clause-placed c =
    let made = c.in-Ok.ensures.made in
    let long : length (shown c.in-Ok.disk.held) ≡ 787456 = ap (λ (m : Memory). length (shown m.held)) made ∙ search rules in
    record { sector = inl refl; start = refl; inside = omega (arith, long); small = lit≤ tt }

pub returns-in-In : goal.returns-in-In
returns-in-In c =
    let w : Prepared = c.in-Ok-new-2.write in
    let e = c.in-Ok-new-2.ensures in
    let has : Contains c.admit_write.new.self.pending w
    = subst (λ l. Contains l w) (sym (c.in-In.ensures.admitted refl)) (element_right _ (w ∷ []) w (first_element w [])) in
    (has.0, w, has.1, has.2, (e.0, e.1))
