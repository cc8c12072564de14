use Rattle.std.proofs.Common.{◌+◌, ◌-◌, ◌*◌, length, refl, ap, ◌∙◌, arith}
use Rattle.cipher_base.proofs.Loops.{starts, goes_on, ends}
use Rattle.cipher_base.proofs.block.BlockCipher.encipher_blocks.Goals as goal

pub loop-i-init : goal.loop-i-init
loop-i-init g c = starts _ _ _ _ refl

pub loop-i-preserved : goal.loop-i-preserved
loop-i-preserved g c =
    let written = c.copy_from_slice-in-loop-i.ensures.after in
    goes_on 16 c.loop-i.i (16 * c.loop-i.i) (16 * c.loop-i.i + 16 - 16 * c.loop-i.i) _ _ _
    c.copy_from_slice-in-loop-i.new.self c.loop-i.invariant refl (omega arith) (omega arith)
    (written ∙ c.encipher.ensures ∙ ap (g.Self.BlockCipher.enciphered c.args.self.now) c.copy_from_slice.ensures.after)
    (ap length written ∙ c.encipher.array_long)

pub returns : goal.returns
returns g c = ends 16 c.loop-i.i _ _ _ c.loop-i.invariant (omega arith) c.loop-i-test.false (omega arith) c.requires
