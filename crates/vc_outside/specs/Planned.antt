-- Planned faults. The calls of an object are numbered from 0. A list says which fail, and from the number
-- `stop` on all do.
--
-- counted n               the count after n, which stays at its last value once that is reached
-- counted_if failed n     the same if the call failed, else n
-- is_listed n ns          whether n is one of ns
-- plan_of n fails stop    what is planned for the call n: it succeeds, it fails, it is the one at which the
--                         object stops, or the object has stopped before
-- goes plan               whether the call succeeds
use Rattle.std.specs.Prelude.{◌==◌, ◌^◌, ◌+◌, ◌-◌, nat_lt, ℕ, Bool, true, false, List, Option, Some, None, if◌then◌else◌, min}
use Rattle.std.specs.List.{list_any}
use Rattle.vc_outside.specs.declared.planned.CallPlan.{CallPlan}
use Rattle.vc_outside.specs.declared.planned.CallPlan.TheVariants.{Goes, Fails, Stops, Stopped}

abbrev pub counted : ℕ → ℕ
counted n = min (n + 1) (2 ^ 64 - 1)

abbrev pub counted_if : Bool → ℕ → ℕ
counted_if failed n = if failed then counted n else n

abbrev pub is_listed : ℕ → List ℕ → Bool
is_listed n ns = list_any (λ m. m == n) ns

abbrev pub listed_plan : ℕ → List ℕ → CallPlan
listed_plan n fails = if is_listed n fails then Fails else Goes

abbrev pub plan_of : ℕ → List ℕ → Option ℕ → CallPlan
plan_of n fails None = listed_plan n fails
plan_of n fails (Some stop) = if nat_lt n stop then listed_plan n fails else (if n == stop then Stops else Stopped)

abbrev pub goes : CallPlan → Bool
goes Goes = true
goes plan = false
