use Rattle.std.proofs.Common.{ap, sym, subst}
use Rattle.std.proofs.iter.Serving.{serving}
use Rattle.vol_server.specs.Laws.Tasks.{CanRun, IsReady, work_of}
use Rattle.vol_server.proofs.Running.{ran_as}
use Rattle.vol_server.proofs.run.run_all.Goals as goal

pub for_each_mut-requires-clause-accepts : goal.for_each_mut-requires-clause-accepts
for_each_mut-requires-clause-accepts g c κs within i p lt is =
    let v = c.args.volume.now in (
      (
        c.requires.sector,
        subst (CanRun v.lock.table.shared.table_id v.geometry v.cipher) (sym is) (c.requires.tasks i p.now lt),
        subst IsReady (ap work_of (sym is)) (c.requires.ready i p.now lt),
      ),
      grind serving steps 10000000,
    )

pub returns : goal.returns
returns g c = (
  c.for_each_mut.auto.s,
  λ k d lt.
      let v = c.args.volume.now in let e = (c.for_each_mut.ensures k d lt).1 in
      ran_as v.lock.table.shared.table_id v.geometry v.cipher g.I.Source g.O.Sink c.args.export _ _ _ _ e.argument_is e.left e.call,
)
