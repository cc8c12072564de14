use Rattle.std.proofs.Common.{◌≡◌, ℕ, ◌+◌, ◌∙◌, arith, map, subst, sym, take}
use Rattle.std.specs.Vec.Iter.{into_iter_len}
use Rattle.hist_lock.specs.Known.{view}
use Rattle.vol_server.specs.Laws.Lists.{AreNext, HaveRoom}
use Rattle.vol_server.specs.Laws.Tasks.{CanJoin, HasJoined, view_in}
use Rattle.vol_server.proofs.Joining.{holds_next, none_joined, one_dropped, one_joined}
use Rattle.vol_server.proofs.Listing.{none_noted, one_noted, one_view}
use Rattle.vol_server.proofs.join.join_all.Goals as goal

pub tasks-init : goal.tasks-init
tasks-init g c = record {
  pass = c.requires.pass;
  nothing = c.requires.open;
  joined = none_joined (view c.args.pass.now.seat);
  rest = c.into_iter-ended.ensures.rest;
  listed = none_noted c.args.lists.now c.requires.empty;
  room = subst (λ (k : ℕ). HaveRoom k c.args.lists.now) (sym (c.into_iter-ended.ensures.len ∙ c.args.tasks.ok.0)) c.requires.room;
  left = omega arith;
  count = c.len-count.ensures ∙ c.into_iter-ended.ensures.len ∙ c.args.tasks.ok.0;
}

pub join-requires-clause-other : goal.join-requires-clause-other
join-requires-clause-other g c = let v = c.args.volume.now in
    (holds_next (CanJoin v.lock.table.shared.table_id v.geometry v.cipher) c.tasks.n c.args.tasks.items _ _ _ c.tasks.invariant.rest
    c.in-Some.ensures.items c.requires.tasks).0

pub join-requires-clause-open : goal.join-requires-clause-open
join-requires-clause-open g c = let v = c.args.volume.now in (
  c.tasks.invariant.nothing,
  (holds_next (CanJoin v.lock.table.shared.table_id v.geometry v.cipher) c.tasks.n c.args.tasks.items _ _ _ c.tasks.invariant.rest
      c.in-Some.ensures.items c.requires.tasks).1,
)

pub tasks-preserved : goal.tasks-preserved
tasks-preserved g c =
    let v = c.args.volume.now in let e = c.join.ensures in let so_far = c.tasks.invariant in
    let n = c.tasks.n in let ts = c.args.tasks.items in let at = so_far.rest in let is = c.in-Some.ensures.items in
    let can = holds_next (CanJoin v.lock.table.shared.table_id v.geometry v.cipher) n ts _ _ _ at is c.requires.tasks in
    let one_less : into_iter_len c.tasks.ended ≡ into_iter_len c.next-next.new.self + 1 = omega (arith, c.in-Some.ensures.len) in record {
      pass = e.pass;
      nothing = e.open;
      joined = subst (HasJoined (view c.args.pass.now.seat) (view c.join.new.pass.seat)) (one_view n ts _ _ _ at is)
          (one_joined (view c.args.pass.now.seat) (view c.tasks.pass.seat) _ (view c.join.new.pass.seat) (map view_in (take n ts)) so_far.joined
          e.same.0 e.same.1 e.same.2 e.share e.under can.2 e.given e.seen.0 e.joined e.settled c.args.pass.now.own c.join.new.pass.own);
      rest = one_dropped n ts _ _ _ at is;
      listed = one_noted n ts _ _ _ c.tasks.lists c.list.new.self at is
          (subst (λ (k : ℕ). AreNext c.tasks.lists c.list.new.self c.in-Some.task.work k) c.number.ensures.number c.list.ensures.next) so_far.listed;
      room = c.list.ensures.room (into_iter_len c.next-next.new.self) (subst (λ (k : ℕ). HaveRoom k c.tasks.lists) one_less so_far.room);
      left = omega (arith, c.in-Some.ensures.len, so_far.left);
      count = so_far.count;
    }
