use Rattle.std.proofs.Common.{◌≡◌, [], refl, ap, ◌∙◌, arith}
use Rattle.hist_lock.specs.Known.{view}
use Rattle.io_queue.proofs.Passes.{no_call}
use Rattle.nbd_wire.specs.Classes.{asked}
use Rattle.nbd_wire.specs.declared.ask.Ask.TheVariants as ask
use Rattle.nbd_wire.specs.declared.reply.Outcome.TheVariants as outcome
use Rattle.nbd_session.proofs.Asked.{read_range, write_range}
use Rattle.pipe_lane.proofs.CarriedOut.{carried_alone, of_frame}
use Rattle.pipe_lane.proofs.carry.carry.Goals as goal

pub carry_read-requires-clause-asked : goal.carry_read-requires-clause-asked
carry_read-requires-clause-asked g c κs within = let q = c.requires.queued.1 in
    ap (asked c.args.volume.now.geometry.sector) q.request ∙ q.asks_so ∙ c.in-Read.is

pub carry_read-requires-clause-range : goal.carry_read-requires-clause-range
carry_read-requires-clause-range g c κs within = let q = c.requires.queued.1 in
    read_range c.args.volume.now.geometry.sector c.args.queued.request c.requires.sector (omega arith) c.in-Read.first c.in-Read.count
    (ap (asked c.args.volume.now.geometry.sector) q.request ∙ q.asks_so ∙ c.in-Read.is)

pub carry_write-requires-clause-asked : goal.carry_write-requires-clause-asked
carry_write-requires-clause-asked g c κs within = let q = c.requires.queued.1 in
    ap (asked c.args.volume.now.geometry.sector) q.request ∙ q.asks_so ∙ c.in-Write.is

pub carry_write-requires-clause-range : goal.carry_write-requires-clause-range
carry_write-requires-clause-range g c κs within = let q = c.requires.queued.1 in
    write_range c.args.volume.now.geometry.sector c.args.queued.request c.requires.sector (omega arith) c.in-Write.first c.in-Write.count c.in-Write.fua
    (ap (asked c.args.volume.now.geometry.sector) q.request ∙ q.asks_so ∙ c.in-Write.is)

pub returns-in-Read-clause-carried : goal.returns-in-Read-clause-carried
returns-in-Read-clause-carried g c f q =
    of_frame c.args.volume.now.geometry.sector c.args.queued.request f (view c.args.pass.now.seat) (view c.carry_read.new.pass.seat) c.carry_read.result
    q.request (c.carry_read.ensures.carried f.payload)

pub returns-in-Write-clause-carried : goal.returns-in-Write-clause-carried
returns-in-Write-clause-carried g c f q =
    of_frame c.args.volume.now.geometry.sector c.args.queued.request f (view c.args.pass.now.seat) (view c.carry_write.new.pass.seat) c.carry_write.result
    q.request (c.carry_write.ensures.carried f.payload q.payload)

pub returns-in-Flush-clause-carried : goal.returns-in-Flush-clause-carried
returns-in-Flush-clause-carried g c f q = let call = c.flush_volume-flushed.ensures.call in
    of_frame c.args.volume.now.geometry.sector c.args.queued.request f (view c.args.pass.now.seat) (view c.flush_volume-flushed.new.pass.seat) _
    q.request (carried_alone c.args.volume.now.geometry.sector c.args.queued.request f.payload (view c.args.pass.now.seat)
    (view c.flush_volume-flushed.new.pass.seat) ask.Flush c.flush_volume-flushed.result call.0
    (ap (asked c.args.volume.now.geometry.sector) q.request ∙ q.asks_so ∙ c.in-Flush.is) call.1 (call.2, refl))

pub returns-in-Malformed-clause-carried : goal.returns-in-Malformed-clause-carried
returns-in-Malformed-clause-carried g c f q =
    of_frame c.args.volume.now.geometry.sector c.args.queued.request f (view c.args.pass.now.seat) (view c.args.pass.now.seat) _
    q.request (carried_alone c.args.volume.now.geometry.sector c.args.queued.request f.payload (view c.args.pass.now.seat)
    (view c.args.pass.now.seat) ask.Malformed outcome.Malformed []
    (ap (asked c.args.volume.now.geometry.sector) q.request ∙ q.asks_so ∙ c.in-Malformed.is) (no_call (view c.args.pass.now.seat)) (refl, refl))
