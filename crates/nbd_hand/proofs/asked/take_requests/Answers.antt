use Rattle.std.proofs.Common.{◌∙◌, arith}
use Rattle.nbd_hand.proofs.Parts.{counted, no_name, some_name, stops_later, takes_all, takes_twice, uncounted}
use Rattle.nbd_hand.proofs.asked.take_requests.Goals as goal

pub returns-in-Err-skip-clause-stopped : goal.returns-in-Err-skip-clause-stopped
returns-in-Err-skip-clause-stopped g c =
    stops_later _ _ _ c.take.new.buf _ c.args.n c.in-Err-skip.stop c.in_default.ensures.whole c.in-Err-skip.ensures.stopped (omega (arith, c.take.auto.buf, c.requires))

pub returns-then-n-count-clause-asked : goal.returns-then-n-count-clause-asked
returns-then-n-count-clause-asked g c =
    takes_twice _ _ _ 2 _ c.args.n _ _ _ (takes_all _ _ c.take.new.buf 2 c.in_default.ensures.whole c.take.auto.buf) c.in_default-skip.ensures.whole
    (omega (arith, c.requires))
    (λ xs ys size others is any. uncounted c.args.name _ c.from-count.result xs ys c.take.new.buf size is others (c.from-count.ensures ∙ c.read_u16.ensures) c.if-n-count.true)

pub returns-then-name-eq0-clause-asked : goal.returns-then-name-eq0-clause-asked
returns-then-name-eq0-clause-asked g c =
    takes_twice _ _ _ 2 _ c.args.n _ _ _ (takes_all _ _ c.take.new.buf 2 c.in_default.ensures.whole c.take.auto.buf) c.in_default-skip.ensures.whole
    (omega (arith, c.requires))
    (λ xs ys size others is any.
    counted c.args.name _ c.from-count.result xs ys c.take.new.buf size is others (c.from-count.ensures ∙ c.read_u16.ensures) c.if-n-count.false
    ∙ no_name c.args.name c.if-name-eq0.true)

pub returns-clause-asked : goal.returns-clause-asked
returns-clause-asked g c =
    takes_twice _ _ _ 2 _ c.args.n _ _ _ (takes_all _ _ c.take.new.buf 2 c.in_default.ensures.whole c.take.auto.buf) c.in_default-skip.ensures.whole
    (omega (arith, c.requires))
    (λ xs ys size others is any.
    counted c.args.name _ c.from-count.result xs ys c.take.new.buf size is others (c.from-count.ensures ∙ c.read_u16.ensures) c.if-n-count.false
    ∙ some_name c.args.name c.if-name-eq0.false)
