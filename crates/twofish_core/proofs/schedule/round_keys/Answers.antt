use Rattle.std.proofs.Common.{◌*◌, ◌∙◌, arith, refl}
use Rattle.cipher_base.proofs.Loops.{length-put_mid, filled_none, filled_more, filled_all}
use Rattle.twofish_core.specs.Twofish.{key_pair, round_keys}
use Rattle.twofish_core.proofs.schedule.round_keys.Goals as goal

pub loop-i-init : goal.loop-i-init
loop-i-init c = (refl, filled_none 2 0 (key_pair c.args.key.now) _ refl)

pub loop-i-preserved : goal.loop-i-preserved
loop-i-preserved c =
    let pair = c.copy_from_slice.new.self in (
      length-put_mid _ _ c.loop-i.keys pair (omega arith) (omega arith) ∙ c.loop-i.invariant.0,
      filled_more 2 c.loop-i.i (2 * c.loop-i.i) _ (key_pair c.args.key.now) c.loop-i.keys pair
          c.loop-i.invariant.1 refl (omega arith) (omega arith)
          (c.copy_from_slice.ensures.after ∙ c.key_pair-pair.ensures) (omega arith),
    )

pub returns : goal.returns
unfolding round_keys
returns c =
    filled_all 2 c.loop-i.i 20 (key_pair c.args.key.now) c.loop-i.keys c.loop-i.invariant.1
    (omega arith) c.loop-i.invariant.0
