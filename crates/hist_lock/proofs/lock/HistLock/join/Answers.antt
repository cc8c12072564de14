use Rattle.std.proofs.Common.{rules, ◌≡◌, ◌≢◌, ℕ, ◌∷◌, ◌++◌, length, AllPairs, arith, ap, sym, subst, ◌∙◌, length-append}
use Rattle.hist_lock.specs.History.{entries, SameUnder}
use Rattle.hist_lock.specs.Known.{numbers_of}
use Rattle.hist_lock.specs.Laws.Rule.{Joined}
use Rattle.hist_lock.specs.Laws.Steps.{Sat, both}
use Rattle.hist_lock.proofs.Joining.{joins, meets}
use Rattle.hist_lock.proofs.Acting.{joined_own, joined_other, joined_under, joined_other_under}
use Rattle.hist_lock.proofs.lock.HistLock.join.Goals as goal

pub join_seat-requires : goal.join_seat-requires
join_seat-requires g c = let p = c.args.pass.now in let o = c.args.other in (
  c.requires.pass.0,
  c.requires.other.0,
  o.carries,
  search rules,
  joins _ _ _ p.seat.me.0 _ o.seat.me.0 c.requires.pass.1 c.requires.other.1 p.drawn o.drawn p.holds o.holds p.spare o.spare,
)

pub load-requires : goal.load-requires
load-requires g c = (
  search rules,
  search rules,
  meets _ _ _ _ c.join_seat.new.seat.me (ap (λ (m : Sat g.row.T.Denot g.row.T-Entry.Denot). m.0.live) c.join_seat.ensures.2 ∙ c.requires.pass.1),
)

pub invariant_of-pass : goal.invariant_of-pass
invariant_of-pass g c =
    let p = c.args.pass.now in let o = c.args.other in let v = p.seat.me.0 in let w = o.seat.me.0 in
    let now : c.load.new.seat.me ≡ (both v w, p.seat.me.1) = c.load.ensures.2.0 ∙ c.join_seat.ensures.2 in
    let met : Joined g.T.Standing.number (both v w).seen (both v w).met =
    subst (λ (m : Sat g.row.T.Denot g.row.T-Entry.Denot). Joined g.T.Standing.number m.0.seen m.0.met) c.join_seat.ensures.2 c.load.ensures.2.1 in
    let under : length c.load.new.seat.me.0.under ≡ length (v.under ++ w.number ∷ w.under) = ap (λ (m : Sat g.row.T.Denot g.row.T-Entry.Denot). length m.0.under) now in
    let count = length-append v.under (w.number ∷ w.under) in let mine = p.ended_is in let theirs = o.ended_is in
    record {
      carries = ap (λ (m : Sat g.row.T.Denot g.row.T-Entry.Denot). m.1) now ∙ p.carries;
      drawn = ap (λ (m : Sat g.row.T.Denot g.row.T-Entry.Denot). m.0.drawn) now ∙ p.drawn;
      holds = ap (λ (m : Sat g.row.T.Denot g.row.T-Entry.Denot). m.0.holds) now ∙ p.holds;
      spare = ap (λ (m : Sat g.row.T.Denot g.row.T-Entry.Denot). m.0.spare) now ∙ p.spare;
      number_is = p.number_is ∙ sym (ap (λ (m : Sat g.row.T.Denot g.row.T-Entry.Denot). m.0.number) now);
      ended_is = omega arith;
      apart = subst (λ (m : Sat g.row.T.Denot g.row.T-Entry.Denot). AllPairs (λ m n. m ≢ n) (numbers_of m.0)) (sym c.load.ensures.2.0) c.load.ensures.2.3;
      own = subst (λ (m : Sat g.row.T.Denot g.row.T-Entry.Denot). entries g.T.Standing.number m.0.number m.0.seen ≡ m.0.mine) (sym now)
          (joined_own g.T.Standing.number v w (both v w).seen met p.own);
    }

pub returns-clause-joined : goal.returns-clause-joined
returns-clause-joined g c =
    let p = c.args.pass.now in let o = c.args.other in let v = p.seat.me.0 in let w = o.seat.me.0 in
    let now : c.load.new.seat.me ≡ (both v w, p.seat.me.1) = c.load.ensures.2.0 ∙ c.join_seat.ensures.2 in
    let met : Joined g.T.Standing.number c.load.new.seat.me.0.seen (both v w).met =
    subst (λ (m : Sat g.row.T.Denot g.row.T-Entry.Denot). Joined g.T.Standing.number m.0.seen (both v w).met) (sym c.load.ensures.2.0)
    (subst (λ (m : Sat g.row.T.Denot g.row.T-Entry.Denot). Joined g.T.Standing.number c.join_seat.new.seat.me.0.seen m.0.met) c.join_seat.ensures.2 c.load.ensures.2.1) in
    joined_other g.T.Standing.number v w c.load.new.seat.me.0.seen met o.own

pub returns-clause-ended : goal.returns-clause-ended
returns-clause-ended g c =
    let p = c.args.pass.now in let o = c.args.other in let v = p.seat.me.0 in let w = o.seat.me.0 in
    let met : Joined g.T.Standing.number c.load.new.seat.me.0.seen (both v w).met =
    subst (λ (m : Sat g.row.T.Denot g.row.T-Entry.Denot). Joined g.T.Standing.number m.0.seen (both v w).met) (sym c.load.ensures.2.0)
    (subst (λ (m : Sat g.row.T.Denot g.row.T-Entry.Denot). Joined g.T.Standing.number c.join_seat.new.seat.me.0.seen m.0.met) c.join_seat.ensures.2 c.load.ensures.2.1) in
    joined_other_under g.T.Standing.number v w c.load.new.seat.me.0.seen met

pub returns-clause-settled : goal.returns-clause-settled
returns-clause-settled g c =
    let p = c.args.pass.now in let o = c.args.other in let v = p.seat.me.0 in let w = o.seat.me.0 in
    let met : Joined g.T.Standing.number c.load.new.seat.me.0.seen (both v w).met =
    subst (λ (m : Sat g.row.T.Denot g.row.T-Entry.Denot). Joined g.T.Standing.number m.0.seen (both v w).met) (sym c.load.ensures.2.0)
    (subst (λ (m : Sat g.row.T.Denot g.row.T-Entry.Denot). Joined g.T.Standing.number c.join_seat.new.seat.me.0.seen m.0.met) c.join_seat.ensures.2 c.load.ensures.2.1) in
    joined_under g.T.Standing.number v w c.load.new.seat.me.0.seen met
