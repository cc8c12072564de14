use Rattle.std.proofs.Common.{arith, refl}
use Rattle.drill_streams.proofs.Counting.{counts_up, next_counts}
use Rattle.drill_streams.proofs.bytes.counting.Goals as goal

pub loop-i-init : goal.loop-i-init
loop-i-init c = record { size = refl; each = λ k below. absurd (omega (arith, below)) }

pub loop-i-preserved : goal.loop-i-preserved
loop-i-preserved c = next_counts c.args.start c.loop-i.i _ c.loop-i.sector c.loop-i.invariant (omega arith) (omega arith)

pub returns : goal.returns
returns c = counts_up c.args.start c.loop-i.sector c.loop-i.invariant.size (λ k below. c.loop-i.invariant.each k (omega (arith, below)))
