use Rattle.std.proofs.Common.{ℕ, List, drop, ap, ◌∙◌, arith, length-drop}
use Rattle.std.proofs.lemmas.List.{take_all}
use Rattle.vc_header.proofs.view.HeaderView.keys.Goals as goal

pub returns-clause-keys : goal.returns-clause-keys
returns-clause-keys c =
    take_all 256 (drop 256 c.self.inside.bytes.now)
    (omega (arith, length-drop 256 c.self.inside.bytes.now, c.self.invariant))
    ∙ ap (λ (b : List ℕ). drop 256 b) c.self.view_is
