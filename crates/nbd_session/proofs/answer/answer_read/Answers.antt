use Rattle.std.proofs.Common.{[], refl}
use Rattle.hist_lock.specs.Known.{view}
use Rattle.io_queue.proofs.Passes.{no_call}
use Rattle.nbd_wire.specs.declared.ask.Ask.TheVariants as ask
use Rattle.nbd_wire.specs.declared.reply.Outcome.TheVariants as outcome
use Rattle.nbd_session.proofs.Acted.{acts_alone}
use Rattle.nbd_session.proofs.answer.answer_read.Goals as goal

pub returns-in_default-clause-acts : goal.returns-in_default-clause-acts
returns-in_default-clause-acts g c payload =
    acts_alone c.args.volume.now.geometry.sector c.args.request.now payload (view c.args.pass.now.seat) (view c.args.pass.now.seat)
    (g.O.Sink.contents c.args.sink.now) (g.O.Sink.contents c.reply_alone.new.sink) c.reply_alone.result
    (ask.Read c.args.first c.args.count) outcome.NoMemory [] c.requires.asked (no_call (view c.args.pass.now.seat)) (refl, refl)
    c.reply_alone.ensures.replied

pub returns-clause-acts : goal.returns-clause-acts
returns-clause-acts g c payload = c.answer_in.ensures.acts payload
