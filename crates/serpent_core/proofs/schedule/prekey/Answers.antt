use Rattle.std.proofs.Common.{arith}
use Rattle.std.proofs.lemmas.Nat.Bits.{bit_at_xor, same_from_bits}
use Rattle.serpent_core.proofs.KeyByKey.{prekey_is}
use Rattle.serpent_core.proofs.schedule.prekey.Goals as goal

-- the sum may be taken in any order
pub returns : goal.returns
returns c =
    prekey_is c.args.words.now c.args.i _ c.rotate_left.result c.rotate_left.ensures
    (same_from_bits _ _ (λ k. simp bit_at_xor (omega arith)))
