use Rattle.std.proofs.Common.{length, sym, subst, ◌∙◌}
use Rattle.hist_lock.specs.Known.{view}
use Rattle.io_queue.specs.Calls.{read_entries}
use Rattle.io_queue.specs.Pass.{shape}
use Rattle.nbd_session.specs.Outcomes.{data_of}
use Rattle.nbd_session.specs.Session.{events_of}
use Rattle.nbd_wire.specs.Replies.{ReadLeaves}
use Rattle.nbd_wire.specs.declared.reply.Outcome.{Outcome}
use Rattle.nbd_session.proofs.CallLeaves.{count_of, read_leaves, whole_sectors}
use Rattle.nbd_session.proofs.sectors.read_sectors.Goals as goal

pub read-requires-clause-whole : goal.read-requires-clause-whole
read-requires-clause-whole g c κs within =
    whole_sectors c.args.volume.now.geometry.sector c.args.count (length c.args.out.now) c.requires.sector c.requires.whole

pub returns-clause-call : goal.returns-clause-call
returns-clause-call g c = (
  read_entries (shape c.args.volume.now.geometry) (view c.args.pass.now.seat).number c.args.first c.read.new.out c.read.result,
  c.read.ensures.call,
  subst (λ (o : Outcome). ReadLeaves c.args.volume.now.geometry.sector c.args.first c.args.count o
      (events_of (read_entries (shape c.args.volume.now.geometry) (view c.args.pass.now.seat).number c.args.first c.read.new.out c.read.result))
      (data_of o c.read.new.out)) (sym c.outcome_of.ensures)
      (read_leaves (shape c.args.volume.now.geometry) c.args.volume.now.geometry.sector (view c.args.pass.now.seat).number c.args.first c.args.count
      c.read.new.out c.read.result c.read.ensures.result
      (count_of c.args.volume.now.geometry.sector c.args.count (length c.read.new.out) c.requires.sector (c.read.ensures.length ∙ c.requires.whole))
      (c.read.ensures.length ∙ c.requires.whole)),
)
