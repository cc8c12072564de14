use Rattle.vc_app.proofs.ServedVolume.{without_flag}
use Rattle.vc_app.proofs.serve.serve_clients.Goals as goal

pub returns-in-Ok-serve-clause-served : goal.returns-in-Ok-serve-clause-served
returns-in-Ok-serve-clause-served g c =
    without_flag g.I.Source g.O.Sink _ _ c.args.handshake c.args.volume.now.geometry _ _ _ _ _ _ c.if-handshake.false
    c.in-Ok.ensures c.in-Ok-serve.ensures.served
