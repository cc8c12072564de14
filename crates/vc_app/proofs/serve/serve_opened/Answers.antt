use Rattle.std.proofs.Common.{refl}
use Rattle.hist_lock.specs.Known.{view}
use Rattle.vc_app.proofs.ServedVolume.{first_base, opened_ran}
use Rattle.vc_app.proofs.serve.serve_opened.Goals as goal

pub returns-in-Ok : goal.returns-in-Ok
returns-in-Ok g c =
    opened_ran g.D.Store _ g.I.Source g.O.Sink c.args.opened.now c.args.protect c.args.faults c.args.handshake
    _ (view c.in-Ok.pass.seat) _ _ (c.serve_volume.ensures c.args.disk) (first_base (view c.in-Ok.pass.seat) _ c.in-Ok.ensures.first) (record {
      image = refl;
      size = refl;
      faults = refl;
      enciphers = c.new-keyed.ensures.enciphers;
      deciphers = c.new-keyed.ensures.deciphers;
      geometry = c.geometry_of-geometry.ensures;
      range_is = refl;
      pending = refl;
    })
