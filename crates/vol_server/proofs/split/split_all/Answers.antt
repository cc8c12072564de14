use Rattle.std.proofs.Common.{ap, ◌∙◌, arith, length}
use Rattle.hist_lock.specs.Known.{view}
use Rattle.vol_server.specs.Laws.Tasks.{work_of}
use Rattle.vol_server.proofs.Splitting.{none_listed, none_split, one_listed, one_longer, one_split}
use Rattle.vol_server.proofs.split.split_all.Goals as goal

pub works-init : goal.works-init
works-init g c = let v = c.args.volume.now in record {
  pass = c.requires.pass;
  nothing = c.requires.open;
  split = none_split v.lock.table.shared.table_id v.geometry v.cipher (view c.args.pass.now.seat) c.args.tasks.now.items c.requires.empty;
  works = none_listed work_of c.args.tasks.now.items _ c.args.works.items c.requires.empty c.into_iter-waiting.ensures.rest;
  left = omega arith;
  count = c.len-count.ensures ∙ c.into_iter-waiting.ensures.len ∙ c.args.works.ok.0;
  made = ap length c.requires.empty;
  room = c.requires.room;
}

pub works-preserved : goal.works-preserved
works-preserved g c =
    let v = c.args.volume.now in let e = c.split.ensures in let so_far = c.works.invariant in record {
      pass = e.pass;
      nothing = e.open.0;
      split = one_split v.lock.table.shared.table_id v.geometry v.cipher (view c.args.pass.now.seat) (view c.works.pass.seat)
          (view c.split.new.pass.seat) c.works.tasks.items c.push_reserved.new.self.items _ c.push_reserved.ensures.items so_far.split
          e.same e.kept.0 e.kept.1 e.halves.0 e.halves.1 e.fresh.0 e.fresh.1 (e.new, e.open.1) e.seen e.empty.0 e.empty.1;
      works = one_listed work_of c.works.tasks.items c.push_reserved.new.self.items _ _ _ c.args.works.items c.push_reserved.ensures.items
          c.in-Some.ensures.items so_far.works;
      left = omega (arith, c.in-Some.ensures.len, so_far.left);
      count = so_far.count;
      made = one_longer c.works.tasks.items c.push_reserved.new.self.items _ c.works.n c.push_reserved.ensures.items so_far.made;
      room = omega (arith, c.push_reserved.ensures.capacity, so_far.room);
    }
