use Rattle.std.proofs.Common.{refl}
use Rattle.hist_lock.specs.Known.{view}
use Rattle.nbd_wire.specs.declared.ask.Ask.TheVariants as ask
use Rattle.nbd_session.proofs.Acted.{acts_alone}
use Rattle.nbd_session.proofs.answer.answer_flush.Goals as goal

pub returns-clause-acts : goal.returns-clause-acts
returns-clause-acts g c payload = let call = c.flush_volume-flushed.ensures.call in
    acts_alone c.args.volume.now.geometry.sector c.args.request.now payload (view c.args.pass.now.seat) (view c.flush_volume-flushed.new.pass.seat)
    (g.O.Sink.contents c.args.sink.now) (g.O.Sink.contents c.reply_alone.new.sink) c.reply_alone.result
    ask.Flush c.flush_volume-flushed.result call.0 c.requires.asked call.1 (call.2, refl) c.reply_alone.ensures.replied
