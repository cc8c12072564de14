use Rattle.std.proofs.Common.{rules, ◌∙◌}
use Rattle.io_queue.proofs.Passes.{fetched_more, fetched_nothing}
use Rattle.io_queue.proofs.volume.Volume.fetch.Goals as goal

pub returns-then-not-is_later-clause-call : goal.returns-then-not-is_later-clause-call
returns-then-not-is_later-clause-call g c =
    fetched_more g.C.UnitCipher c.args.pass.now.seat.me.0 c.loop.pass.seat.me.0 c.fetch_once-answer.new.pass.seat.me.0
    c.args.self.now.cipher c.args.self.now.geometry c.args.first c.fetch_once-answer.new.out c.fetch_once-answer.result
    c.loop.invariant.4 c.fetch_once-answer.ensures.call

pub loop-preserved : goal.loop-preserved
loop-preserved g c = (
  search rules,
  search rules,
  c.fetch_once-answer.ensures.pass,
  c.fetch_once-answer.ensures.open,
  fetched_nothing g.C.UnitCipher c.args.pass.now.seat.me.0 c.loop.pass.seat.me.0 c.fetch_once-answer.new.pass.seat.me.0
      c.args.self.now.cipher c.args.self.now.geometry c.args.first c.fetch_once-answer.new.out c.fetch_once-answer.result
      c.loop.invariant.4 c.fetch_once-answer.ensures.call (c.is_later.ensures.0 c.if-not-is_later.false),
  c.fetch_once-answer.ensures.length ∙ c.loop.invariant.5,
)
