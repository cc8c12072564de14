use Rattle.vc_app.proofs.Sectors.{asked_written, front_asked}
use Rattle.vc_app.proofs.commands.cat.write_sectors.Goals as goal

pub returns-clause-done : goal.returns-clause-done
returns-clause-done g c =
    asked_written c.write_units.result (g.D.Store.image c.args.disk.now) (g.O.Sink.contents c.args.out.now)
    (g.O.Sink.contents c.write_units.new.out) c.args.command.now c.args.opened.now
    _ c.units_of.result c.units_of-count.result
    c.new-keyed.ensures.deciphers c.units_of.ensures.units c.units_of-count.ensures.units c.write_units.ensures.done

pub returns-clause-front : goal.returns-clause-front
returns-clause-front g c =
    front_asked (g.D.Store.image c.args.disk.now) (g.O.Sink.contents c.args.out.now)
    (g.O.Sink.contents c.write_units.new.out) c.args.command.now c.args.opened.now
    _ c.units_of.result c.units_of-count.result
    c.new-keyed.ensures.deciphers c.units_of.ensures.units c.units_of-count.ensures.units c.write_units.ensures.front
