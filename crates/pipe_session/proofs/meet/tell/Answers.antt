use Rattle.std.proofs.Common.{List, ℕ, ◌∷◌, ◌++◌, ap, subst, ◌∙◌, arith}
use Rattle.hist_lock.specs.History.{StartsWith}
use Rattle.hist_lock.specs.Known.{longer, view}
use Rattle.sector_model.specs.declared.entry.Entry.{Entry}
use Rattle.pipe_session.proofs.meet.tell.Goals as goal

pub returns-clause-told : goal.returns-clause-told
returns-clause-told g c =
    let s = c.split-half.ensures in let j = c.join.ensures in record {
      same = s.same;
      seen = s.kept.0;
      mine = s.kept.1;
      base = j.same.0;
      number = j.same.1;
      own = j.same.2;
      knows = omega (arith, j.given);
      longer_is = j.longer ∙ ap (λ (l : List Entry). longer (view c.args.other.now.seat).seen l) s.seen;
      later = j.seen.0;
      sees = subst (λ (l : List Entry). StartsWith (view c.join.new.pass.seat).seen l) s.seen j.seen.1;
      settled = j.settled;
      half = view c.split-half.result.seat;
      kept = s.halves.0;
      given = s.halves.1;
      adds = j.share;
      new = s.fresh.0;
      under = j.under ∙ ap (λ (l : List ℕ). (view c.args.other.now.seat).under ++ (view c.split-half.result.seat).number ∷ l) s.empty.1;
      idle = j.joined ∙ s.empty.0;
    }
