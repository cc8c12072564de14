use Rattle.std.proofs.Common.{◌≡◌, ℕ, ◌+◌, List, ◌++◌, drop, take, length, ap, ◌∙◌, sym, subst, arith}
use Rattle.std.proofs.Math.Seq.{take-append_seam}
use Rattle.hist_lock.specs.Known.{view}
use Rattle.nbd_wire.specs.Replies.{ReadLeaves}
use Rattle.nbd_wire.specs.Wire.{reply}
use Rattle.nbd_wire.specs.declared.ask.Ask.TheVariants as ask
use Rattle.nbd_wire.specs.declared.reply.Outcome.{Outcome}
use Rattle.nbd_wire.specs.declared.reply.Outcome.TheVariants as outcome
use Rattle.nbd_session.proofs.DataInPlace.{no_data}
use Rattle.nbd_session.specs.Outcomes.{data_of}
use Rattle.nbd_session.specs.Session.{events_of}
use Rattle.pipe_lane.proofs.CarriedOut.{carried_alone, carried_with}
use Rattle.pipe_lane.proofs.carry.carry_in.Goals as goal

-- a buffer whose items were all replaced
whole_items : (n : ℕ) (new old : List ℕ) → length new ≡ n → take n (new ++ drop (length new) old) ≡ new
whole_items n new old is = ap (λ (k : ℕ). take k (new ++ drop (length new) old)) (sym is) ∙ take-append_seam new (drop (length new) old)

pub read_behind-outcome-requires-clause-room : goal.read_behind-outcome-requires-clause-room
read_behind-outcome-requires-clause-room g c κs within = ap length c.deref_mut.ensures.value ∙ c.requires.room

pub returns-in_default-clause-carried : goal.returns-in_default-clause-carried
returns-in_default-clause-carried g c payload = let call = c.read_behind-outcome.ensures.call in
    carried_alone c.args.volume.now.geometry.sector c.args.request payload (view c.args.pass.now.seat) (view c.read_behind-outcome.new.pass.seat)
    (ask.Read c.args.first c.args.count) c.read_behind-outcome.result call.0 c.requires.asked call.1
    (subst (λ (bytes : List ℕ). ReadLeaves c.args.volume.now.geometry.sector c.args.first c.args.count c.read_behind-outcome.result (events_of call.0) bytes)
    (no_data c.read_behind-outcome.result (drop 16 c.read_behind-outcome.new.buf) c.in_default.not-Done) call.2)

pub returns-clause-carried : goal.returns-clause-carried
returns-clause-carried g c payload = let call = c.read_behind-outcome.ensures.call in
    carried_with c.args.volume.now.geometry.sector c.args.request payload (view c.args.pass.now.seat) (view c.read_behind-outcome.new.pass.seat)
    (ask.Read c.args.first c.args.count) outcome.Done call.0 (drop 16 c.read_behind-outcome.new.buf) _ c.requires.asked call.1
    (subst (λ (o : Outcome). ReadLeaves c.args.volume.now.geometry.sector c.args.first c.args.count o (events_of call.0)
    (data_of o (drop 16 c.read_behind-outcome.new.buf))) c.in-Done.is call.2)
    (ap (λ (l : List ℕ). reply 0 c.args.request.cookie ++ drop 16 l) (whole_items c.args.buf.len c.read_behind-outcome.new.buf c.args.buf.items
    (omega (arith, c.read_behind-outcome.auto.buf, c.deref_mut.ensures.len, c.deref_mut.ensures.value, c.args.buf.ok.0))))
