use Rattle.std.proofs.Common.{rules, ◌≡◌, ℕ, length, ap, sym, ◌∙◌, subst}
use Rattle.io_core.specs.State.{IsPlaced}
use Rattle.vc_layout.specs.Layout.{IsSectorSize}
use Rattle.vc_layout.specs.declared.geometry.Geometry.{Geometry}
use Rattle.vc_outside.specs.Memory.{Memory, shown}
use Rattle.vc_outside.specs.Record.{read_after}
use Rattle.nbd_session.proofs.tests.served.serve.Goals as goal

pub open-requires-clause-placed : goal.open-requires-clause-placed
unfolding read_after
open-requires-clause-placed g c =
    let made = c.in_ok-store.ensures.made in
    let long : length (shown c.in_ok-store.store.held) ≡ 8704 = ap (λ (m : Memory). length (shown m.held)) made ∙ search rules in
    subst (λ (n : ℕ). IsPlaced n c.geometry_of-geometry.result) (sym long) c.geometry_of-geometry.ensures

pub session-end-requires-clause-sector : goal.session-end-requires-clause-sector
session-end-requires-clause-sector g c κs within =
    subst (λ (x : Geometry). IsSectorSize x.sector) (sym c.in-Ok-open.ensures.geometry) c.geometry_of-geometry.ensures.sector
