use Rattle.std.proofs.Common.{rules, ◌<◌, sym, subst}
use Rattle.race_word.specs.declared.view.Key.{Key}
use Rattle.race_word.proofs.Steps.{offers}
use Rattle.race_word.proofs.least.Least.offer.Goals as goal

pub fetch_min-requires : goal.fetch_min-requires
fetch_min-requires g c =
    let may = subst (λ (k : Key g.row.R.Denot). (c.args.n < k.limit) × g.R.Names.names k.names c.args.n) (sym c.args.self.now.key_is)
    (c.requires.limit, c.requires.named) in (
      c.requires.runner.table,
      search rules,
      offers _ c.args.self.now.table.shared.key _ _ c.args.n c.args.r.now.seat.me c.args.r.now.live may.0 may.1,
    )
