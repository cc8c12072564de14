use Rattle.std.proofs.Common.{ℕ, List, ◌<◌, length, get_or, rules, ap, ◌∙◌, arith}
use Rattle.vc_base.specs.Bytes.{xor_bytes, in_pieces, piece}
use Rattle.cipher_base.specs.Field.{times_power}
use Rattle.cipher_base.specs.Xts.{whitened}
use Rattle.cipher_base.proofs.Stretches.{stretched}
use Rattle.cascade_set.proofs.Stretches.{xor_bytes-take}
use Rattle.cascade_set.proofs.layer.Layer.decipher.Goals as goal

pub returns : goal.returns
returns g c n is_tweak =
    let main = g.P.BlockCipher.deciphered c.args.self.now.cipher.main in
    let old = c.args.stretch.now in
    let run = c.run_from-run.result in
    let long = length old in
    let each : (i : ℕ) → get_or old i 0 < 256 = search rules in
    c.xor_into-2.ensures
    ∙ xor_bytes-take long _ run (omega arith)
    ∙ ap (λ (b : List ℕ). xor_bytes b run)
    (c.decipher_blocks.ensures
    ∙ ap (in_pieces 16 (λ j b. main b)) (c.xor_into.ensures ∙ xor_bytes-take long old run (omega arith)))
    ∙ stretched main (piece 16 c.args.j c.args.tweaks.now) old run
    (g.met.P.BlockCipher.deciphered_is_block c.args.self.now.cipher.main) each c.requires.whole
    c.requires.short c.run_from-run.ensures
    ∙ ap (λ (t : List ℕ). in_pieces 16 (λ j p. whitened main (times_power j t) p) old) is_tweak
