use Rattle.std.proofs.Common.{◌≡◌, ℕ, ◌+◌, ◌-◌, ◌%◌, List, take, drop, ap, ◌∙◌, arith}
use Rattle.vol_expand.proofs.Filling.{part_of_fill}
use Rattle.vol_expand.proofs.fill.salt_in_fill.Goals as goal

pub returns-clause-salt : goal.returns-clause-salt
returns-clause-salt c = λ n inside.
    let count : c.args.at % 4 + 64 - c.args.at % 4 ≡ 64 = omega arith in
    c.copy_from_slice.ensures.after
    ∙ ap (λ (k : ℕ). take k (drop (c.args.at % 4) c.bytes_at.new.bytes)) count
    ∙ ap (λ (xs : List ℕ). take 64 (drop (c.args.at % 4) xs)) c.bytes_at.ensures.bytes
    ∙ part_of_fill c.args.rng.now c.args.at n inside
