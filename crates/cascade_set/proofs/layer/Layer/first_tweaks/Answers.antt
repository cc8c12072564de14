use Rattle.std.proofs.Common.{◌*◌, take, drop}
use Rattle.cipher_base.proofs.Stretches.{numbers_enciphered}
use Rattle.cascade_set.proofs.Stretches.{numbers_joined}
use Rattle.cascade_set.proofs.layer.Layer.first_tweaks.Goals as goal

pub returns : goal.returns
returns g c =
    let tweak = c.args.self.now.cipher.tweak in
    let count = c.args.count in
    let blocks = c.numbers-tweaks.result in
    numbers_enciphered (g.P.BlockCipher.enciphered tweak) c.args.unit count (take (16 * count) blocks)
    _ (drop (16 * count) blocks)
    (g.met.P.BlockCipher.enciphered_is_block tweak)
    (numbers_joined c.args.unit count blocks c.numbers-tweaks.ensures) c.encipher_blocks.ensures
