-- All clients so far ended well.
use Rattle.std.proofs.Common.{◌≡◌, drop}
use Rattle.vc_app.specs.Serve.{ends_status}
use Rattle.vc_app.proofs.serve.ends.worst_of.Given as goal

abbrev pub invariant-clients : goal.invariant-clients
invariant-clients l = ends_status l.i (drop l.i l.hands) (drop l.i l.ends) ≡ ends_status 0 l.hands l.ends
