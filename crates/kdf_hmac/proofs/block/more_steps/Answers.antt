use Rattle.std.proofs.Common.{◌≡◌, ℕ, ◌+◌, take, ap, ◌∙◌, arith}
use Rattle.kdf_hmac.specs.Hmac.{output_length, padded, hmac_of}
use Rattle.kdf_hmac.proofs.Steps.{stepped_more, stepped_at}
use Rattle.kdf_hmac.proofs.block.more_steps.Goals as goal

pub steps-init : goal.steps-init
steps-init g c password salt number done keyed before =
    stepped_at g.H.Hasher.prf password salt number c.args.block.mac c.args.block.sum done (done + 0) (omega arith) before

pub steps-preserved : goal.steps-preserved
steps-preserved g c password salt number done keyed before =
    let prf = g.H.Hasher.prf in
    let so_far = done + c.steps._done in
    let next : c.mac-mac.result ≡ padded prf (hmac_of prf password (take (output_length prf) c.steps.mac))
    = c.mac-mac.ensures password keyed ∙ ap (λ (n : ℕ). padded prf (hmac_of prf password (take n c.steps.mac))) c.output_length.ensures in
    stepped_at prf password salt number c.mac-mac.result c.xor-sum.result (so_far + 1) (done + (c.steps._done + 1)) (omega arith)
    (stepped_more prf password salt number c.steps.mac c.steps.sum c.mac-mac.result c.xor-sum.result so_far
    (c.steps.invariant password salt number done keyed before) next c.xor-sum.ensures)
