use Rattle.std.proofs.Common.{ℕ, List, ◌++◌, ◌∙◌, subst, arith}
use Rattle.hist_lock.specs.Known.{view}
use Rattle.nbd_wire.specs.Replies.{ReadLeaves}
use Rattle.nbd_wire.specs.Wire.{reply}
use Rattle.nbd_wire.specs.declared.ask.Ask.TheVariants as ask
use Rattle.nbd_wire.specs.declared.reply.Outcome.{Outcome}
use Rattle.nbd_wire.specs.declared.reply.Outcome.TheVariants as outcome
use Rattle.nbd_session.proofs.Acted.{acts_alone, acts_with}
use Rattle.nbd_session.proofs.DataInPlace.{data_put, length-data, no_data}
use Rattle.nbd_session.specs.Outcomes.{data_of}
use Rattle.nbd_session.specs.Sent.{Replied}
use Rattle.nbd_session.specs.Session.{events_of}
use Rattle.nbd_session.proofs.answer.answer_in.Goals as goal

pub read_sectors-outcome-requires-clause-some : goal.read_sectors-outcome-requires-clause-some
read_sectors-outcome-requires-clause-some g c κs within =
    omega (arith, length-data c.args.request.now.length c.args.buf.now c.requires.room, c.requires.range.some)

pub read_sectors-outcome-requires-clause-whole : goal.read_sectors-outcome-requires-clause-whole
read_sectors-outcome-requires-clause-whole g c κs within =
    length-data c.args.request.now.length c.args.buf.now c.requires.room ∙ c.requires.range.whole

pub read_sectors-outcome-requires-clause-small : goal.read_sectors-outcome-requires-clause-small
read_sectors-outcome-requires-clause-small g c κs within =
    omega (arith, length-data c.args.request.now.length c.args.buf.now c.requires.room, c.requires.range.small)

pub read_sectors-outcome-requires-clause-within : goal.read_sectors-outcome-requires-clause-within
read_sectors-outcome-requires-clause-within g c κs within = c.requires.range.within

pub returns-in_default-clause-acts : goal.returns-in_default-clause-acts
returns-in_default-clause-acts g c payload = let call = c.read_sectors-outcome.ensures.call in
    acts_alone c.args.volume.now.geometry.sector c.args.request.now payload (view c.args.pass.now.seat) (view c.read_sectors-outcome.new.pass.seat)
    (g.O.Sink.contents c.args.sink.now) (g.O.Sink.contents c.reply_alone.new.sink) c.reply_alone.result
    (ask.Read c.args.first c.args.count) c.read_sectors-outcome.result call.0 c.requires.asked call.1
    (subst (λ (bytes : List ℕ). ReadLeaves c.args.volume.now.geometry.sector c.args.first c.args.count c.read_sectors-outcome.result (events_of call.0) bytes)
    (no_data c.read_sectors-outcome.result c.read_sectors-outcome.new.out c.in_default.not-Done) call.2)
    c.reply_alone.ensures.replied

pub returns-clause-acts : goal.returns-clause-acts
returns-clause-acts g c payload = let call = c.read_sectors-outcome.ensures.call in
    acts_with c.args.volume.now.geometry.sector c.args.request.now payload (view c.args.pass.now.seat) (view c.read_sectors-outcome.new.pass.seat)
    (g.O.Sink.contents c.args.sink.now) (g.O.Sink.contents c.reply_data.new.sink) c.reply_data.result
    (ask.Read c.args.first c.args.count) outcome.Done call.0 c.read_sectors-outcome.new.out c.requires.asked call.1
    (subst (λ (o : Outcome). ReadLeaves c.args.volume.now.geometry.sector c.args.first c.args.count o (events_of call.0) (data_of o c.read_sectors-outcome.new.out))
    c.in-Done.is call.2)
    (subst (λ (bytes : List ℕ). Replied (g.O.Sink.contents c.args.sink.now) (g.O.Sink.contents c.reply_data.new.sink) (reply 0 c.args.request.now.cookie ++ bytes)
    c.reply_data.result) (data_put c.args.buf.now c.read_sectors-outcome.new.out (omega (arith, c.requires.room))) c.reply_data.ensures.replied)
