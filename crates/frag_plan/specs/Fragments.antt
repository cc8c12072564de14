-- The fragments of a request: it is cut every 512 units, counted from its first one.
use Rattle.std.specs.Prelude.{ℕ, ◌+◌, ◌-◌, ◌*◌, ◌/◌, min}
use Rattle.range_base.specs.Range.{IsInRange}
use Rattle.frag_plan.specs.Request.{Request}
use Rattle.frag_plan.specs.declared.plan.Frag.{Frag}

-- how many there are
abbrev pub fragment_count : Request → ℕ
fragment_count request = (request.count + 511) / 512

-- fragment k: 512 units from 512 * k on, or as many as are left
abbrev pub fragment : Request → ℕ → Frag
fragment request k = record {
  first = request.first + 512 * k;
  count = min 512 (request.count - 512 * k);
}

-- unit u is in this fragment
abbrev pub IsInFragment : Frag → ℕ → Type 0
IsInFragment frag u = IsInRange frag.first frag.count u
