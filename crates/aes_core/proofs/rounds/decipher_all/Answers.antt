use Rattle.std.proofs.Common.{◌+◌, ◌-◌, ◌*◌, refl, arith}
use Rattle.cipher_base.proofs.ByGroups.{regrouped, group_more, rest_done}
use Rattle.cipher_base.proofs.Loops.{starts}
use Rattle.aes_core.specs.Aes.{inverse_cipher}
use Rattle.aes_core.proofs.rounds.decipher_all.Goals as goal

pub loop-i-init : goal.loop-i-init
loop-i-init c = starts _ _ _ _ refl

pub loop-i-preserved : goal.loop-i-preserved
loop-i-preserved c =
    let i = c.loop-i.i in
    group_more i (128 * i + 128 - 128 * i) (inverse_cipher c.args.keys.now.schedule) _ _ c.decipher_eight.new.group
    c.loop-i.invariant (omega arith) (omega arith) c.decipher_eight.ensures (omega arith)

pub returns : goal.returns
returns c =
    let i = c.loop-i.i in
    let f = inverse_cipher c.args.keys.now.schedule in
    rest_done (8 * i) _ _ f c.args.blocks.now c.loop-i.blocks c.decipher_rest.new.rest
    (regrouped i (8 * i) f _ _ refl (omega arith) c.loop-i.invariant)
    (omega arith) (omega arith) c.requires c.decipher_rest.ensures (omega arith)
