use Rattle.std.proofs.Common.{max, arith}
use Rattle.range_base.proofs.overlap_is_by_ends.Goals as goal

-- the later of the two starts is in both ranges
pub returns : goal.returns
returns c first count other others = (
  λ o. omega arith,
  λ h. record {
    common = max first other;
    in_first = record { from = omega arith; below = omega arith };
    in_other = record { from = omega arith; below = omega arith };
  },
)
