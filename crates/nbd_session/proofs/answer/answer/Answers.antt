use Rattle.std.proofs.Common.{[], refl, ◌∙◌, arith}
use Rattle.hist_lock.specs.Known.{view}
use Rattle.io_queue.proofs.Passes.{no_call}
use Rattle.nbd_wire.specs.declared.ask.Ask.TheVariants as ask
use Rattle.nbd_wire.specs.declared.reply.Outcome.TheVariants as outcome
use Rattle.nbd_session.proofs.Acted.{acts_alone}
use Rattle.nbd_session.proofs.Asked.{read_range, write_range}
use Rattle.nbd_session.proofs.answer.answer.Goals as goal

pub answer_read-requires-clause-asked : goal.answer_read-requires-clause-asked
answer_read-requires-clause-asked g c κs within = c.requires.asked ∙ c.in-Read.is

pub answer_read-requires-clause-range : goal.answer_read-requires-clause-range
answer_read-requires-clause-range g c κs within =
    read_range c.args.volume.now.geometry.sector c.args.request.now c.requires.sector (omega arith) c.in-Read.first c.in-Read.count
    (c.requires.asked ∙ c.in-Read.is)

pub answer_write-requires-clause-asked : goal.answer_write-requires-clause-asked
answer_write-requires-clause-asked g c κs within = c.requires.asked ∙ c.in-Write.is

pub answer_write-requires-clause-range : goal.answer_write-requires-clause-range
answer_write-requires-clause-range g c κs within =
    write_range c.args.volume.now.geometry.sector c.args.request.now c.requires.sector (omega arith) c.in-Write.first c.in-Write.count c.in-Write.fua
    (c.requires.asked ∙ c.in-Write.is)

pub answer_flush-requires-clause-asked : goal.answer_flush-requires-clause-asked
answer_flush-requires-clause-asked g c κs within = c.requires.asked ∙ c.in-Flush.is

pub returns-in-Read-clause-acts : goal.returns-in-Read-clause-acts
returns-in-Read-clause-acts g c payload kept = c.answer_read.ensures.acts payload

pub returns-in-Write-clause-acts : goal.returns-in-Write-clause-acts
returns-in-Write-clause-acts g c payload kept = c.answer_write.ensures.acts payload kept

pub returns-in-Flush-clause-acts : goal.returns-in-Flush-clause-acts
returns-in-Flush-clause-acts g c payload kept = c.answer_flush.ensures.acts payload

pub returns-in-Malformed-clause-acts : goal.returns-in-Malformed-clause-acts
returns-in-Malformed-clause-acts g c payload kept =
    acts_alone c.args.volume.now.geometry.sector c.args.request.now payload (view c.args.pass.now.seat) (view c.args.pass.now.seat)
    (g.O.Sink.contents c.args.sink.now) (g.O.Sink.contents c.reply_alone.new.sink) c.reply_alone.result
    ask.Malformed outcome.Malformed [] (c.requires.asked ∙ c.in-Malformed.is) (no_call (view c.args.pass.now.seat)) (refl, refl)
    c.reply_alone.ensures.replied
