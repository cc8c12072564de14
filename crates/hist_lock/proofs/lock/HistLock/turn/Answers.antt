use Rattle.std.proofs.Common.{◌≡◌, ◌≢◌, List, [], length, All, AllPairs, ap, sym, subst, ◌∙◌}
use Rattle.hist_lock.specs.History.{entries, SameUnder}
use Rattle.hist_lock.specs.Known.{numbers_of}
use Rattle.hist_lock.specs.Laws.Steps.{Sat, done, holding, queued}
use Rattle.hist_lock.proofs.Acting.{own_grow, others_stay}
use Rattle.hist_lock.proofs.lock.HistLock.turn.Goals as goal

pub invariant_of-pass : goal.invariant_of-pass
invariant_of-pass g c =
    let h = c.enter.ensures.holds in let a = c.act_once.ensures.acted in let p = c.args.pass.now in let v = p.seat.me.0 in
    let now : c.act_once.new.seat.me ≡ (done a.0 (holding h.1.log (queued h.0 v)), []) =
    a.1 ∙ ap (λ (m : Sat g.row.T.Denot g.row.T-Entry.Denot). (done a.0 m.0, [])) h.1.seat in
    let own : All (λ e. g.T.Standing.number e ≡ v.number) a.0 = subst (λ n. All (λ e. g.T.Standing.number e ≡ n) a.0) p.number_is a.3 in
    record {
      carries = ap (λ (m : Sat g.row.T.Denot g.row.T-Entry.Denot). m.1) now;
      drawn = ap (λ (m : Sat g.row.T.Denot g.row.T-Entry.Denot). m.0.drawn) now;
      holds = ap (λ (m : Sat g.row.T.Denot g.row.T-Entry.Denot). m.0.holds) now;
      spare = ap (λ (m : Sat g.row.T.Denot g.row.T-Entry.Denot). m.0.spare) now ∙ p.spare;
      number_is = p.number_is ∙ sym (ap (λ (m : Sat g.row.T.Denot g.row.T-Entry.Denot). m.0.number) now);
      ended_is = p.ended_is ∙ sym (ap (λ (m : Sat g.row.T.Denot g.row.T-Entry.Denot). length m.0.under) now);
      apart = subst (λ (m : Sat g.row.T.Denot g.row.T-Entry.Denot). AllPairs (λ m n. m ≢ n) (numbers_of m.0)) (sym now) p.apart;
      own = subst (λ (m : Sat g.row.T.Denot g.row.T-Entry.Denot). entries g.T.Standing.number m.0.number m.0.seen ≡ m.0.mine) (sym now)
          (own_grow g.T.Standing.number v.number v.under v.seen h.1.log a.0 h.1.same own v.mine p.own);
    }

pub returns-clause-settled : goal.returns-clause-settled
returns-clause-settled g c =
    let h = c.enter.ensures.holds in let a = c.act_once.ensures.acted in let p = c.args.pass.now in let v = p.seat.me.0 in
    let now : c.act_once.new.seat.me ≡ (done a.0 (holding h.1.log (queued h.0 v)), []) =
    a.1 ∙ ap (λ (m : Sat g.row.T.Denot g.row.T-Entry.Denot). (done a.0 m.0, [])) h.1.seat in
    subst (λ (m : Sat g.row.T.Denot g.row.T-Entry.Denot). SameUnder g.T.Standing.number v.under m.0.seen v.seen) (sym now)
    (others_stay g.T.Standing.number v.number v.under v.seen h.1.log a.0 h.1.same (subst (λ n. All (λ e. g.T.Standing.number e ≡ n) a.0) p.number_is a.3) p.apart)
