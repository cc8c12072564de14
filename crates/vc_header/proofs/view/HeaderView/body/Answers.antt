use Rattle.std.proofs.Common.{ℕ, List, drop, ap, ◌∙◌, arith, length-drop}
use Rattle.std.proofs.lemmas.List.{take_all}
use Rattle.vc_header.proofs.view.HeaderView.body.Goals as goal

pub returns-clause-body : goal.returns-clause-body
returns-clause-body c =
    take_all 448 (drop 64 c.self.inside.bytes.now)
    (omega (arith, length-drop 64 c.self.inside.bytes.now, c.self.invariant))
    ∙ ap (λ (b : List ℕ). drop 64 b) c.self.view_is
