use Rattle.std.proofs.Common.{ℕ, List, ◌<◌, get_or, rules, ap, ◌∙◌}
use Rattle.vc_base.specs.Bytes.{xor_bytes, in_pieces}
use Rattle.cipher_base.proofs.Stretches.{stretched}
use Rattle.cipher_base.proofs.xts.Xts.encipher_from.Goals as goal

pub returns : goal.returns
returns g c =
    let self = c.args.self.now in
    let tweaks = c.powers-tweaks.result in
    let each : (i : ℕ) → get_or c.args.stretch.now i 0 < 256 = search rules in
    c.xor_into-2.ensures
    ∙ ap (λ (b : List ℕ). xor_bytes b tweaks)
    (c.encipher_blocks.ensures ∙ ap (in_pieces 16 (λ j b. g.P.BlockCipher.enciphered self.main b)) c.xor_into.ensures)
    ∙ stretched (g.P.BlockCipher.enciphered self.main) c.args.first c.args.stretch.now tweaks
    (g.met.P.BlockCipher.enciphered_is_block self.main) each c.requires.whole c.requires.short c.powers-tweaks.ensures
