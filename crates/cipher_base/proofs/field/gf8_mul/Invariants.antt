use Rattle.std.proofs.Common.{◌-◌}
use Rattle.vc_base.proofs.Products.{HasRead}
use Rattle.cipher_base.proofs.field.gf8_mul.Given as goal

abbrev pub invariant-loop-i : goal.invariant-loop-i
invariant-loop-i l = HasRead 8 l.poly l.fn.a l.b (8 - l.i) l.result
