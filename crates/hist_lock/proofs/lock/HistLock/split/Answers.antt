use Rattle.std.proofs.Common.{rules, ap, ◌∙◌}
use Rattle.hist_lock.specs.Laws.Steps.{Sat}
use Rattle.hist_lock.proofs.Splitting.{splits}
use Rattle.hist_lock.proofs.lock.HistLock.split.Goals as goal

pub split_seat-seat-requires : goal.split_seat-seat-requires
split_seat-seat-requires g c = let p = c.args.pass.now in let now = c.name-number.ensures.named in (
  search rules,
  search rules,
  splits _ _ _ c.name-number.result c.name-number.new.seat.me.0
      (ap (λ (m : Sat g.row.T.Denot g.row.T-Entry.Denot). m.0.live) now ∙ c.requires.pass.1)
      (ap (λ (m : Sat g.row.T.Denot g.row.T-Entry.Denot). m.0.drawn) now ∙ p.drawn)
      (ap (λ (m : Sat g.row.T.Denot g.row.T-Entry.Denot). m.0.holds) now ∙ p.holds)
      (ap (λ (m : Sat g.row.T.Denot g.row.T-Entry.Denot). m.0.spare) now),
)
