use Rattle.std.proofs.Common.{◌*◌, arith}
use Rattle.vc_header.proofs.volume.protect_of.Goals as goal

-- the first byte of each such unit belongs to the volume
pub returns-clause-no_more : goal.returns-clause-no_more
returns-clause-no_more c u protected = (
  512 * u,
  omega arith,
  record {
    from = omega (arith, c.requires, protected.from);
    below = omega (arith, c.requires, protected.below, c.max-size.ensures, c.div_ceil.ensures);
  },
)
