use Rattle.std.proofs.Common.{◌/◌, length, rules}
use Rattle.sector_view.proofs.Halves.{halves_joined}
use Rattle.sector_view.proofs.decipher.+decipher_halves+fn-decipher_halves-join_mut+arg2+fn-decipher_halves-join_mut+arg3.Goals as goal

pub returns : goal.returns
returns g t c =
    let buffer = c.args.buffer.now in
    let parts = c.split_at_mut-front in
    halves_joined (g.C.UnitCipher.deciphered c.args.cipher.now) c.args.unit (length buffer / 1024) buffer
    parts.result.0.now parts.result.1.now c.front-1.given.0 c.back-1.given.0
    parts.ensures.value parts.ensures.front_len c.requires.whole (search rules) (search rules)
