use Rattle.std.proofs.Common.{arith}
use Rattle.nbd_hand.specs.Laws.Parts.{after_name}
use Rattle.nbd_hand.proofs.Parts.{name_next, ok_later, stops_err}
use Rattle.nbd_hand.proofs.asked.take_name.Goals as goal

pub returns-clause-asked : goal.returns-clause-asked
returns-clause-asked g c = ok_later _ _ _ c.args.name c.take_requests.result _ _ c.args.n (after_name c.args.name) _ c.in_default.ensures.whole
    (λ xs ys size first. name_next xs ys c.args.name size) (omega (arith, c.if-name-n.false, c.requires)) c.take_requests.ensures.asked

pub returns-clause-stopped : goal.returns-clause-stopped
returns-clause-stopped g c = stops_err _ _ _ c.args.name _ c.args.n _ c.take_requests.result c.in_default.ensures.whole
    (omega (arith, c.if-name-n.false, c.requires)) c.take_requests.ensures.stopped
