use Rattle.vc_outside.proofs.NothingMore.{nothing_more_twice}
use Rattle.vc_app.proofs.serve.opening.open_asked.Goals as goal

pub returns-in-Ok-open_hidden-clause-crash : goal.returns-in-Ok-open_hidden-clause-crash
returns-in-Ok-open_hidden-clause-crash g c =
    nothing_more_twice _ _ _ _ _ _ _ _ _ _
    (λ modelled t b from left. g.met.D.Store.counts_now modelled c.args.disk.now t b from left)
    c.open_by.ensures.crash c.open_hidden.ensures.crash

pub returns-in-Err-open_hidden-clause-crash : goal.returns-in-Err-open_hidden-clause-crash
returns-in-Err-open_hidden-clause-crash g c =
    nothing_more_twice _ _ _ _ _ _ _ _ _ _
    (λ modelled t b from left. g.met.D.Store.counts_now modelled c.args.disk.now t b from left)
    c.open_by.ensures.crash c.open_hidden.ensures.crash
