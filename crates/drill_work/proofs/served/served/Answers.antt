use Rattle.std.proofs.Common.{false, [], None, refl, ap, ◌∙◌}
use Rattle.vc_layout.specs.declared.geometry.Geometry.{Geometry}
use Rattle.hist_lock.specs.Known.{view}
use Rattle.drill_work.proofs.Ending.{place_is, served_whole}
use Rattle.drill_work.proofs.served.served.Goals as goal

pub returns : goal.returns
returns g c =
    let s = c.in-Ok-serve.served in
    served_whole _ g.C.UnitCipher _ _ c.args.n
    (record {
      disk = c.args.disk;
      cipher = c.args.cipher;
      geometry = c.args.geometry;
      guard = record { range = None; frozen = false };
      pending = [];
      capacity = 3;
    })
    (view c.in-Ok.pass.seat) (view c.serve.new.pass.seat) (view c.in-Ok-close._pass.seat) c.in-Ok-close.disk c.in-Ok.volume.geometry.sector
    c.args.clients.items s.clients.items s.ends.items s.replies.items s.callers.items
    (place_is c.args.geometry c.requires.start c.requires.sectors c.requires.sector) refl
    (ap (λ (p : Geometry). p.sector) c.in-Ok.ensures.geometry ∙ c.requires.sector) c.requires.clients
    c.in-Ok.ensures.first c.serve.ensures.same c.serve.ensures.settled c.in-Ok-serve.ensures.under c.in-Ok-serve.ensures.served
    (c.if-not-all_done.ensures.first refl) (c.if-not-all_done.ensures.second refl) (c.if-not-all_done.ensures.third refl)
    c.in-Ok-close.ensures.pass c.in-Ok-close.ensures.callers c.in-Ok-close.ensures.left
    (λ s. refl) (λ s. refl) (λ s. refl) (λ s. refl)
