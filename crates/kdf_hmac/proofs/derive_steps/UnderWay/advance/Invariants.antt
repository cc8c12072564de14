use Rattle.std.proofs.Common.{◌≡◌, ◌≤◌, ◌-◌}
use Rattle.kdf_hmac.proofs.derive_steps.UnderWay.advance.Given as goal

abbrev pub invariant-steps : goal.invariant-steps
invariant-steps g l =
    (l.wanted ≤ l.initial.wanted) × (l.initial.wanted ≤ l.initial.self.left)
    × (l.self ≡ record l.initial.self { left = l.initial.self.left - (l.initial.wanted - l.wanted) })

abbrev pub decreases-steps : goal.decreases-steps
decreases-steps g l = l.wanted
