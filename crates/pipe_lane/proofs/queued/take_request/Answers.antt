use Rattle.nbd_session.proofs.CallByCall.{later_cause}
use Rattle.pipe_lane.proofs.queued.take_request.Goals as goal

pub returns-in-Ok-clause-asked : goal.returns-in-Ok-clause-asked
returns-in-Ok-clause-asked g c = c.take_behind.ensures.asked (g.I.Source.left c.args.source.now) c.in-Ok.ensures.head

pub returns-in-Ok-clause-over : goal.returns-in-Ok-clause-over
returns-in-Ok-clause-over g c = c.take_behind.ensures.over (g.I.Source.left c.args.source.now) c.in-Ok.ensures.head

pub returns-in-Ok-clause-cause : goal.returns-in-Ok-clause-cause
returns-in-Ok-clause-cause g c = later_cause _ _ _ _ _ c.next_request.ensures.cause c.take_behind.ensures.cause
