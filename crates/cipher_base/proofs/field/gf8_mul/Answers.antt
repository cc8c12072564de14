use Rattle.std.proofs.Common.{◌∙◌}
use Rattle.vc_base.proofs.Products.{read_none}
use Rattle.cipher_base.proofs.Multiplying.{read_bit, read_whole}
use Rattle.cipher_base.proofs.field.gf8_mul.Goals as goal
use Rattle.cipher_base.proofs.field.gf8_mul.Goals.{then-b-i-eq1, else-b-i-eq1}

pub loop-i-init : goal.loop-i-init
loop-i-init c = read_none 8 c.args.poly c.args.a c.args.b

pub loop-i-preserved : goal.loop-i-preserved
loop-i-preserved c =
    read_bit c.args.a c.args.b c.args.poly c.loop-i.i c.loop-i.result c.gf8_double.result c.if-b-i-eq1.term
    c.requires c.ranges.a.fits c.loop-i-test.true c.loop-i.invariant c.gf8_double.ensures
    (λ set. elim c.if-b-i-eq1.branch [
      | then-b-i-eq1 w ↦ w.term-is ∙ c.from-a.ensures
      | else-b-i-eq1 w ↦ absurd (w.if-b-i-eq1.false set)
    ])
    (λ clear. elim c.if-b-i-eq1.branch [
      | then-b-i-eq1 w ↦ absurd (clear w.if-b-i-eq1.true)
      | else-b-i-eq1 w ↦ w.term-is
    ])

pub returns : goal.returns
returns c =
    let read = read_whole c.args.a c.args.b c.args.poly c.loop-i.i c.loop-i.result c.requires c.ranges.a.fits
    c.loop-i-test.false c.loop-i.invariant in
    record { product = read.0; remainder = read.1 }
