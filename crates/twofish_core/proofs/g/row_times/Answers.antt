use Rattle.std.proofs.Common.{◌-◌, bit_xor, ap₂, ◌∙◌, arith}
use Rattle.std.proofs.lemmas.Nat.{xor_comm}
use Rattle.twofish_core.proofs.Parts.{row_times-none, row_times-more}
use Rattle.twofish_core.proofs.g.row_times.Goals as goal

pub loop-i-init : goal.loop-i-init
loop-i-init c = row_times-none 0x14d c.args.row.now c.args.x 8 (omega arith)

pub loop-i-preserved : goal.loop-i-preserved
loop-i-preserved c =
    xor_comm c.loop-i.sum c.gf8_mul-sum.result
    ∙ ap₂ bit_xor c.gf8_mul-sum.ensures.product c.loop-i.invariant
    ∙ row_times-more 0x14d c.args.row.now c.args.x (c.loop-i.i - 1) c.loop-i.i
    (omega arith) (omega arith) (omega arith)
