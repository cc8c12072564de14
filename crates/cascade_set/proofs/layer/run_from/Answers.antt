use Rattle.std.proofs.Common.{◌≡◌, ◌+◌, ◌-◌, ◌*◌, ℕ, List, take, drop, ap, ◌∙◌, arith}
use Rattle.vc_base.specs.Bytes.{joined, piece}
use Rattle.cipher_base.specs.Field.{times_power}
use Rattle.cascade_set.proofs.layer.run_from.Goals as goal

pub returns : goal.returns
returns c =
    let j = c.args.j in
    let count : 16 * j + 16 - 16 * j ≡ 16 = omega arith in
    c.tweak_run.ensures
    ∙ ap (λ (t : List ℕ). joined (λ i. times_power i t) 32)
    (c.copy_from_slice.ensures.after ∙ ap (λ (n : ℕ). take n (drop (16 * j) c.args.tweaks.now)) count)
