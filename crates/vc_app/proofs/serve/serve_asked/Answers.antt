use Rattle.std.proofs.Common.{refl, ◌∙◌}
use Rattle.vc_outside.proofs.NothingMore.{nothing_more_twice}
use Rattle.vc_app.specs.Promise.{seen}
use Rattle.vc_app.proofs.ServedVolume.{asked_kept}
use Rattle.vc_app.proofs.serve.serve_asked.Goals as goal

pub returns-in-Ok : goal.returns-in-Ok
returns-in-Ok g c = let e = c.in-Ok.ensures in
    asked_kept g.D.Store _ g.I.Source g.O.Sink c.args.asked.now c.in-Ok.opened c.in-Ok.protect c.faults-at_start.result
    (seen g.D.Store g.P.Sink c.args.disk c.args.out) _ _ c.serve_opened.ensures (record { contents = refl; faults = refl }) e.image e.size e.later c.faults-at_start.ensures e.in_range e.opened e.range
    (λ u. record {
      same = record { image = u.same.image ∙ e.image; size = u.same.size ∙ e.size };
      crash = nothing_more_twice _ _ _ _ _ _ _ _ _ _
          (λ modelled t b from left.
          (g.met.D.Store g.world.𝓛 g.world.𝓜 g.world.𝓡 ((λ s x. x), (λ x. x), (λ x. x), λ x. x)).counts_now modelled c.args.disk t b from left)
          e.crash u.crash;
    })
