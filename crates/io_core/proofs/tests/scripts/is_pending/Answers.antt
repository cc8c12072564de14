use Rattle.std.proofs.Common.{◌≡◌, ◌<◌, ℕ, List, [], ◌∷◌, get_or, length, ap, subst, ◌∙◌, arith}
use Rattle.std.specs.List.{Any, Contains}
use Rattle.std.proofs.lemmas.List.Elements.{All-contains_itself}
use Rattle.sector_model.specs.History.{HasName}
use Rattle.io_core.specs.State.{write_of}
use Rattle.io_core.specs.declared.prepared.Prepared.{Prepared}
use Rattle.io_core.proofs.tests.scripts.is_pending.Goals as goal

any_at : (P : Prepared → Type 0) (ps : List Prepared) (k : ℕ) → k < length ps → ((d : Prepared) → P (get_or ps k d)) → Any P ps
any_at P [] k within each = absurd (omega (arith, within))
any_at P (p ∷ ps) k within each =
    let c : Contains (p ∷ ps) (get_or (p ∷ ps) k p) = All-contains_itself (p ∷ ps) k p within in
    (c.0, get_or (p ∷ ps) k p, c.1, c.2, each p)

pub returns-in-Some-clause-present : goal.returns-in-Some-clause-present
returns-in-Some-clause-present c _ =
    let named : Prepared → Type 0 = λ p. HasName 1 c.args.number (write_of p) in
    let any : Any named c.deref.result.now = any_at named c.deref.result.now c.in-Some.field-0 c.in-Some.ensures.bound c.in-Some.ensures.found in
    let same : c.deref.result.now ≡ c.args.core.now.pending = c.deref.ensures.value ∙ ap (λ s. s.pending) c.core.view_is in
    subst (Any named) same any
