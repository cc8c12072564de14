use Rattle.vc_base.proofs.Remainders.{IsRemainder-remainder, same_remainder}
use Rattle.vc_base.proofs.remainder_is_that_of_division.Goals as goal

pub returns-clause-divides : goal.returns-clause-divides
returns-clause-divides c = IsRemainder-remainder

pub returns-clause-alone : goal.returns-clause-alone
returns-clause-alone c = same_remainder
