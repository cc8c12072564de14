-- The tasks' passes are idle: each joins the list so, and is so when it is taken from it.
use Rattle.std.proofs.Common.{◌≡◌, List, ◌++◌, Option, Some, IfSome, true, All, subst}
use Rattle.std.specs.Option.{option_to_list}
use Rattle.std.proofs.lemmas.List.Elements.{All-same, All-pop, All-push}
use Rattle.frag_pool.specs.Bench.{is_empty}
use Rattle.io_queue.specs.Laws.Idle.{IsIdle}
use Rattle.io_queue.specs.declared.tests.helpers.Task.{Task}
use Rattle.io_queue.proofs.tests.helpers.run_all.Goals as goal

-- what holds of each element holds of the last one
of_last : {X : Type 0} (P : X → Type 0) (xs ys : List X) (r : Option X) (x : X)
    → xs ≡ ys ++ option_to_list r → r ≡ Some x → All P xs → P x
of_last P xs ys r x is some all = subst (λ o. IfSome o P) some (All-pop P xs ys r is all).1

pub loop-preserved : goal.loop-preserved
loop-preserved g c =
    let P : Task → Type 0 = λ t. IsIdle c.args.volume.now.lock.table.shared.table_id c.args.volume.now.geometry c.args.volume.now.cipher t.pass.seat
    × IfSome t.bench (λ b. is_empty b ≡ true) in
    let made = c.new_task-task.ensures in (
      made.pass,
      made.open,
      All-same P _ _ c.push_reserved-in-loop.ensures.items
          (All-push P _ _ (All-same P _ _ c.reserve-in-loop.ensures.items c.loop.invariant.2) (made.idle, made.empty)),
    )

pub join-requires-clause-other : goal.join-requires-clause-other
join-requires-clause-other g c =
    let P : Task → Type 0 = λ t. IsIdle c.args.volume.now.lock.table.shared.table_id c.args.volume.now.geometry c.args.volume.now.cipher t.pass.seat in
    (of_last P _ _ _ _ c.pop-in-loop-task.ensures.items c.in-Some.is c.loop-task.invariant.2).pass

pub join-requires-clause-open : goal.join-requires-clause-open
join-requires-clause-open g c =
    let P : Task → Type 0 = λ t. IsIdle c.args.volume.now.lock.table.shared.table_id c.args.volume.now.geometry c.args.volume.now.cipher t.pass.seat in
    (c.loop-task.invariant.1, (of_last P _ _ _ _ c.pop-in-loop-task.ensures.items c.in-Some.is c.loop-task.invariant.2).ended)

pub loop-task-preserved-in-Some : goal.loop-task-preserved-in-Some
loop-task-preserved-in-Some g c =
    let P : Task → Type 0 = λ t. IsIdle c.args.volume.now.lock.table.shared.table_id c.args.volume.now.geometry c.args.volume.now.cipher t.pass.seat in
    (c.join.ensures.pass, c.join.ensures.open, (All-pop P _ _ _ c.pop-in-loop-task.ensures.items c.loop-task.invariant.2).0)

pub loop-task-preserved : goal.loop-task-preserved
loop-task-preserved g c =
    let P : Task → Type 0 = λ t. IsIdle c.args.volume.now.lock.table.shared.table_id c.args.volume.now.geometry c.args.volume.now.cipher t.pass.seat in
    (c.join.ensures.pass, c.join.ensures.open, (All-pop P _ _ _ c.pop-in-loop-task.ensures.items c.loop-task.invariant.2).0)
