use Rattle.std.proofs.Common.{ap, subst, ◌∙◌, ℕ, List, arith}
use Rattle.vc_base.specs.Bytes.{IsBytes}
use Rattle.cascade_set.specs.contracts.stretch.AnyLayerStretch.TheImpl.{ghosts}
use Rattle.cascade_set.proofs.keyed.Keyed.unheader.Goals as goal

pub returns-clause-undone : goal.returns-clause-undone
returns-clause-undone c =
    let self = c.args.self.now in
    let body : IsBytes 448 c.args.body.now
    = subst (λ (n : ℕ). IsBytes n c.args.body.now) c.told-body c.bytes_are_known.ensures in
    ap (λ (s : List ℕ). ghosts.enciphered self.third 0
    (ghosts.enciphered self.second 0 (ghosts.enciphered self.first 0 s)))
    (c.decipher.ensures 0 (c.first_tweaks.ensures 0 (omega arith)))
    ∙ self.lawful.enciphers 28 0 c.args.body.now body
