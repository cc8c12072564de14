use Rattle.std.proofs.Common.{ℕ, List, ap, ◌∙◌}
use Rattle.cascade_set.specs.Cascade.{deciphered}
use Rattle.header_seal.specs.Sealed.{unsealed}
use Rattle.header_seal.proofs.body.unseal.Goals as goal

pub returns : goal.returns
unfolding unsealed
returns c =
    c.unheader.ensures.deciphered ∙ c.new-keyed.ensures.deciphers 0 c.copy_from_slice.new.self
    ∙ ap (λ (b : List ℕ). deciphered (record { algorithm = c.args.algorithm; material = c.args.derived.now }) 0 b)
    c.copy_from_slice.ensures.after
