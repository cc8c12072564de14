use Rattle.std.proofs.Common.{◌-◌, ◌/◌, arith}
use Rattle.frag_plan.proofs.plan.fragments_tile.Goals as goal

-- the fragment of a unit is found by dividing its distance from the first one
pub returns-clause-covered : goal.returns-clause-covered
returns-clause-covered c request u in_request =
    ((u - request.first) / 512, omega arith, record { from = omega arith; below = omega arith })
