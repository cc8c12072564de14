use Rattle.std.proofs.Common.{◌+◌, length, refl, ap, arith}
use Rattle.std.proofs.lemmas.List.{length-map}
use Rattle.std.proofs.lemmas.List.Elements.{All-same}
use Rattle.hist_lock.specs.Known.{view}
use Rattle.vol_server.specs.Laws.Tasks.{CanRun, IsReady, client_of, of_client, work_of}
use Rattle.vol_server.proofs.LinedUp.{all_parts, of_parts}
use Rattle.vol_server.proofs.Serving.{back, can_join, gained, greeted, has_room, new_callers, served, settled}
use Rattle.vol_server.proofs.server.serve_all.Goals as goal

pub run_all-requires-clause-tasks : goal.run_all-requires-clause-tasks
run_all-requires-clause-tasks g c κs within = let v = c.args.volume.now in
    All-same (CanRun v.lock.table.shared.table_id v.geometry v.cipher) _ _ c.as_mut_slice.ensures.value c.split_all.ensures.split.can_run

pub run_all-requires-clause-ready : goal.run_all-requires-clause-ready
run_all-requires-clause-ready g c κs within =
    all_parts IsReady work_of _ _ _ c.as_mut_slice.ensures.value c.split_all.ensures.works c.line_up.ensures.ready

pub join_all-requires-clause-tasks : goal.join_all-requires-clause-tasks
join_all-requires-clause-tasks g c = let v = c.args.volume.now in
    can_join v.lock.table.shared.table_id v.geometry v.cipher g.I.Source g.O.Sink c.args.export (view c.args.pass.now.seat) (view c.split_all.new.pass.seat)
    _ _ _ _ _ c.split_all.new.tasks.len c.split_all.ensures.split c.as_mut_slice.ensures.value c.split_all.new.tasks.ok.0 c.run_all.ensures refl

pub join_all-requires-clause-room : goal.join_all-requires-clause-room
join_all-requires-clause-room g c = let v = c.args.volume.now in
    has_room v.lock.table.shared.table_id v.geometry v.cipher g.I.Source g.O.Sink c.args.export (view c.args.pass.now.seat) (view c.split_all.new.pass.seat)
    _ _ _ _ _ c.split_all.new.tasks.len c.split_all.ensures.split c.as_mut_slice.ensures.value c.split_all.new.tasks.ok.0 c.run_all.ensures refl
    (c.len-count.result + c.args.helpers) c.in-Ok.room.lists
    (omega (
      arith,
      c.line_up.ensures.count,
      c.in-Ok.ensures.helpers,
      c.len-count.ensures,
      c.args.clients.ok.0,
      length-map c.split_all.new.tasks.items work_of,
      ap length c.split_all.ensures.works,
    )) c.in-Ok.ensures.room.0

pub returns-clause-same : goal.returns-clause-same
returns-clause-same g c = let v = c.args.volume.now in
    back v.lock.table.shared.table_id v.geometry v.cipher g.I.Source g.O.Sink c.args.export (view c.args.pass.now.seat) (view c.split_all.new.pass.seat)
    _ _ _ _ _ c.split_all.new.tasks.len c.split_all.ensures.split c.as_mut_slice.ensures.value c.split_all.new.tasks.ok.0 c.run_all.ensures refl (view c.join_all.new.pass.seat) c.join_all.ensures.joined

pub returns-clause-settled : goal.returns-clause-settled
returns-clause-settled g c = let v = c.args.volume.now in
    settled v.lock.table.shared.table_id v.geometry v.cipher g.I.Source g.O.Sink c.args.export (view c.args.pass.now.seat) (view c.split_all.new.pass.seat)
    _ _ _ _ _ c.split_all.new.tasks.len c.split_all.ensures.split c.as_mut_slice.ensures.value c.split_all.new.tasks.ok.0 c.run_all.ensures refl (view c.join_all.new.pass.seat) c.join_all.ensures.joined

pub returns-clause-served : goal.returns-clause-served
returns-clause-served g c = let v = c.args.volume.now in
    greeted v.lock.table.shared.table_id v.geometry v.cipher g.I.Source g.O.Sink c.args.export (view c.args.pass.now.seat) (view c.split_all.new.pass.seat)
    _ _ _ _ _ c.split_all.new.tasks.len c.split_all.ensures.split c.as_mut_slice.ensures.value c.split_all.new.tasks.ok.0 c.run_all.ensures refl (view c.join_all.new.pass.seat) c.join_all.ensures.joined c.args.clients.items c.join_all.new.lists
    (of_parts (of_client client_of) work_of _ _ _ c.split_all.ensures.works c.line_up.ensures.clients) c.join_all.ensures.listed

pub returns-clause-alone : goal.returns-clause-alone
returns-clause-alone g c none = let v = c.args.volume.now in
    served v.lock.table.shared.table_id v.geometry v.cipher g.I.Source g.O.Sink c.args.export (view c.args.pass.now.seat) (view c.split_all.new.pass.seat)
    _ _ _ _ _ c.split_all.new.tasks.len c.split_all.ensures.split c.as_mut_slice.ensures.value c.split_all.new.tasks.ok.0 c.run_all.ensures refl (view c.join_all.new.pass.seat) c.join_all.ensures.joined c.args.clients.items c.join_all.new.lists none
    (of_parts (of_client client_of) work_of _ _ _ c.split_all.ensures.works c.line_up.ensures.clients) c.join_all.ensures.listed

pub returns-clause-callers : goal.returns-clause-callers
returns-clause-callers g c = let v = c.args.volume.now in
    new_callers v.lock.table.shared.table_id v.geometry v.cipher g.I.Source g.O.Sink c.args.export (view c.args.pass.now.seat) (view c.split_all.new.pass.seat)
    _ _ _ _ _ c.split_all.new.tasks.len c.split_all.ensures.split c.as_mut_slice.ensures.value c.split_all.new.tasks.ok.0 c.run_all.ensures refl (view c.join_all.new.pass.seat) c.join_all.ensures.joined c.join_all.new.lists.served.callers.items
    c.join_all.ensures.listed.callers

pub returns-clause-under : goal.returns-clause-under
returns-clause-under g c = let v = c.args.volume.now in
    gained v.lock.table.shared.table_id v.geometry v.cipher g.I.Source g.O.Sink c.args.export (view c.args.pass.now.seat) (view c.split_all.new.pass.seat)
    _ _ _ _ _ c.split_all.new.tasks.len c.split_all.ensures.split c.as_mut_slice.ensures.value c.split_all.new.tasks.ok.0 c.run_all.ensures refl (view c.join_all.new.pass.seat) c.join_all.ensures.joined c.join_all.new.lists.served.callers.items
    c.join_all.ensures.listed.callers
