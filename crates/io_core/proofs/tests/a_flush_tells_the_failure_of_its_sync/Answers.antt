use Rattle.std.proofs.Common.{rules, refl, ◌≡◌, length, ap, ◌∙◌, arith, inl, lit≤}
use Rattle.vc_outside.specs.Record.{read_after}
use Rattle.vc_outside.specs.Memory.{Memory, shown}
use Rattle.io_core.proofs.tests.a_flush_tells_the_failure_of_its_sync.Goals as goal

pub new-requires-2-clause-placed : goal.new-requires-2-clause-placed
unfolding read_after
new-requires-2-clause-placed g c =
    let made = c.in-Ok.ensures.made in
    let long : length (shown c.in-Ok.disk.held) ≡ 4096 = ap (λ (m : Memory). length (shown m.held)) made ∙ search rules in
    record { sector = inl refl; start = refl; inside = omega (arith, long); small = lit≤ tt }
