use Rattle.std.proofs.Common.{subst}
use Rattle.pipe_lane.proofs.Hearing.{asked_cause, heard_all, heard_more, over_cause}
use Rattle.pipe_lane.specs.Queue.{IsNext}
use Rattle.pipe_lane.proofs.queued.find_next.Goals as goal

pub returns-in-Ok-clause-is : goal.returns-in-Ok-clause-is
returns-in-Ok-clause-is g c left fs is =
    let t = c.in-Ok.ensures.asked in (
      t.frame,
      t.is,
      heard_more c.args.sector left (g.I.Source.left c.args.source.now) (g.I.Source.left c.take_request.new.source) fs c.in-Ok.queued
          (subst (IsNext c.args.sector left (g.I.Source.left c.args.source.now) fs) c.in-Unknown.is is) t,
    )

pub returns-in-Err-clause-is : goal.returns-in-Err-clause-is
returns-in-Err-clause-is g c left fs is =
    heard_all left (g.I.Source.left c.args.source.now) (g.I.Source.left c.take_request.new.source) fs c.in-Err.end
    (subst (IsNext c.args.sector left (g.I.Source.left c.args.source.now) fs) c.in-Unknown.is is) c.in-Err.ensures.over

pub returns-in-Ok-clause-cause : goal.returns-in-Ok-clause-cause
returns-in-Ok-clause-cause g c before cause = asked_cause _ _ _ _ _ c.in-Ok.queued cause c.take_request.ensures.cause

pub returns-in-Err-clause-cause : goal.returns-in-Err-clause-cause
returns-in-Err-clause-cause g c before cause = over_cause _ _ _ _ c.in-Err.end c.take_request.result c.in-Err.is cause c.take_request.ensures.cause
