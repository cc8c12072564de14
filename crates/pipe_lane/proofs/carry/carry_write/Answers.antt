use Rattle.std.proofs.Common.{◌≡◌, ℕ, List, [], length, refl, ◌∙◌, subst}
use Rattle.hist_lock.specs.Known.{view}
use Rattle.io_queue.proofs.Passes.{no_call}
use Rattle.nbd_wire.specs.Replies.{WriteLeaves}
use Rattle.nbd_wire.specs.declared.ask.Ask.TheVariants as ask
use Rattle.nbd_wire.specs.declared.reply.Outcome.TheVariants as outcome
use Rattle.nbd_session.proofs.Acted.{of_some}
use Rattle.nbd_session.specs.Session.{events_of}
use Rattle.pipe_lane.proofs.CarriedOut.{carried_alone}
use Rattle.pipe_lane.proofs.carry.carry_write.Goals as goal

pub returns-in_default-clause-carried : goal.returns-in_default-clause-carried
returns-in_default-clause-carried g c payload kept =
    carried_alone c.args.volume.now.geometry.sector c.args.request payload (view c.args.pass.now.seat) (view c.args.pass.now.seat)
    (ask.Write c.args.first c.args.count c.args.fua) outcome.NoMemory [] c.requires.asked (no_call (view c.args.pass.now.seat)) (refl, refl)

pub write_request-written-requires-clause-within : goal.write_request-written-requires-clause-within
write_request-written-requires-clause-within g c κs within = c.requires.range.within

pub write_request-written-requires-clause-whole : goal.write_request-written-requires-clause-whole
write_request-written-requires-clause-whole g c κs within =
    of_some (λ v. length v.items ≡ c.args.request.length) c.args.kept c.in-Some.payload c.in-Some.is c.requires.size ∙ c.requires.range.whole

pub returns-clause-carried : goal.returns-clause-carried
returns-clause-carried g c payload kept = let call = c.write_request-written.ensures.call in
    carried_alone c.args.volume.now.geometry.sector c.args.request payload (view c.args.pass.now.seat) (view c.write_request-written.new.pass.seat)
    (ask.Write c.args.first c.args.count c.args.fua) c.write_request-written.result call.0 c.requires.asked call.1 (
      subst (λ (bytes : List ℕ). WriteLeaves c.args.first c.args.count c.args.fua bytes c.write_request-written.result (events_of call.0))
          (of_some (λ v. v.items ≡ payload) c.args.kept c.in-Some.payload c.in-Some.is kept) call.2,
      refl,
    )
