use Rattle.std.proofs.Common.{◌≡◌, ℕ, List, drop, ap, sym, ◌∙◌, subst, arith}
use Rattle.hist_lock.specs.Known.{view}
use Rattle.nbd_wire.specs.Replies.{ReadLeaves}
use Rattle.nbd_session.proofs.DataInPlace.{data_put, length-data}
use Rattle.nbd_session.specs.Outcomes.{data_of}
use Rattle.nbd_session.specs.Session.{events_of}
use Rattle.pipe_lane.proofs.carry.read_behind.Goals as goal

pub read_sectors-requires-clause-some : goal.read_sectors-requires-clause-some
read_sectors-requires-clause-some g c κs within =
    omega (arith, length-data c.args.request.now.length c.args.buf.now c.requires.room, c.requires.range.some)

pub read_sectors-requires-clause-whole : goal.read_sectors-requires-clause-whole
read_sectors-requires-clause-whole g c κs within =
    length-data c.args.request.now.length c.args.buf.now c.requires.room ∙ c.requires.range.whole

pub read_sectors-requires-clause-small : goal.read_sectors-requires-clause-small
read_sectors-requires-clause-small g c κs within =
    omega (arith, length-data c.args.request.now.length c.args.buf.now c.requires.room, c.requires.range.small)

pub read_sectors-requires-clause-within : goal.read_sectors-requires-clause-within
read_sectors-requires-clause-within g c κs within = c.requires.range.within

pub returns-clause-call : goal.returns-clause-call
returns-clause-call g c = let call = c.read_sectors.ensures.call in (
  call.0,
  call.1,
  subst (λ (bytes : List ℕ). ReadLeaves c.args.volume.now.geometry.sector c.args.first c.args.count c.read_sectors.result (events_of call.0)
      (data_of c.read_sectors.result bytes))
      (sym (data_put c.args.buf.now c.read_sectors.new.out (omega (arith, c.requires.room)))) call.2,
)
