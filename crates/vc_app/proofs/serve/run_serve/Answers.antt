use Rattle.vc_app.proofs.Drilling.{complete_answered, opening_answered}
use Rattle.vc_app.proofs.serve.run_serve.Goals as goal

pub returns-clause-opening : goal.returns-clause-opening
returns-clause-opening g c = opening_answered g.D.Store _ g.I.Source g.O.Sink _ _ _ _ c.carry_out.ensures

pub returns-clause-complete : goal.returns-clause-complete
returns-clause-complete g c = complete_answered g.D.Store _ g.I.Source g.O.Sink _ _ _ _ c.carry_out.ensures
