use Rattle.std.proofs.Common.{rules, [], ℕ, subst}
use Rattle.io_queue.specs.Laws.Acts.{Ends}
use Rattle.io_queue.specs.Pass.{shape}
use Rattle.io_queue.proofs.Ending.{ended_nothing, own_kept}
use Rattle.io_queue.proofs.Passes.{calls}
use Rattle.io_queue.proofs.volume.Volume.end.Goals as goal

pub end_once-answer-requires-clause-open : goal.end_once-answer-requires-clause-open
end_once-answer-requires-clause-open g c = λ l κ. let o = c.requires.open in (
  o.0,
  own_kept (shape c.args.self.now.geometry) c.args.pass.now.seat.me.0 c.loop.pass.seat.me.0 c.args.first c.args.count o.0 c.loop.invariant.3.same.number o.1,
  c.loop.invariant.4 o.0 o.2,
)

pub returns-then-not-is_waiting-clause-call : goal.returns-then-not-is_waiting-clause-call
returns-then-not-is_waiting-clause-call g c = let e = c.end_once-answer.ensures.call in (
  e.0,
  calls c.args.pass.now.seat.me.0 c.loop.pass.seat.me.0 c.end_once-answer.new.pass.seat.me.0 [] e.0 c.loop.invariant.3 e.1,
  subst (λ (n : ℕ). Ends n c.args.first c.args.count c.end_once-answer.result e.0) c.loop.invariant.3.same.number e.2,
)

pub loop-preserved : goal.loop-preserved
loop-preserved g c = let e = c.end_once-answer.ensures.call in let is = c.is_waiting.ensures.0 c.if-not-is_waiting.false in (
  search rules,
  search rules,
  c.end_once-answer.ensures.pass,
  ended_nothing c.args.pass.now.seat.me.0 c.loop.pass.seat.me.0 c.end_once-answer.new.pass.seat.me.0 c.args.first c.args.count
      c.end_once-answer.result e.0 c.loop.invariant.3 e.1 e.2 is,
  λ w o. c.end_once-answer.ensures.waits w is (c.loop.invariant.4 w o),
)
