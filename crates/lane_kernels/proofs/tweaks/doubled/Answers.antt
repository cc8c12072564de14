use Rattle.cipher_base.proofs.Doubling.{doubled_words}
use Rattle.lane_kernels.proofs.tweaks.doubled.Goals as goal

pub returns : goal.returns
returns c = doubled_words c.args.low c.args.high c.ranges.low.fits c.ranges.high.fits
