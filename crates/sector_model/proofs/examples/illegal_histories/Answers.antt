use Rattle.std.proofs.Common.{◌≡◌, ◌<◌, ◌≤◌, ℕ, ◌+◌, List, refl, ap, get_or, ◌∙◌, arith, lit<, lit≤}
use Rattle.sector_model.specs.Array.{sectors_of}
use Rattle.sector_model.specs.History.{Write}
use Rattle.sector_model.specs.Laws.Examples.{small}
use Rattle.sector_model.proofs.SmallHistories.{apart, meet, the_only, write}
use Rattle.sector_model.proofs.examples.illegal_histories.Goals as goal

pub returns-clause-a_read_of_old_data : goal.returns-clause-a_read_of_old_data
returns-clause-a_read_of_old_data c l =
    let same : 9 ≡ 0 = ap (λ (xs : List ℕ). get_or xs 0 0) (l.1.1.1.0 0 (lit< tt)) in
    absurd (omega (arith, same))

pub returns-clause-a_read_of_an_open_write : goal.returns-clause-a_read_of_an_open_write
returns-clause-a_read_of_an_open_write c l = l.0.1.0.free 0 (write 0 2 1 9) (lit< tt) (meet 2 1 2 1 2 (lit≤ tt) (lit< tt) (lit≤ tt) (lit< tt))

pub returns-clause-a_read_past_the_end : goal.returns-clause-a_read_past_the_end
returns-clause-a_read_past_the_end c l = let fits : 7 + 2 ≤ 8 = l.0.0.fits in absurd (omega arith)

pub returns-clause-a_put_over_an_open_write : goal.returns-clause-a_put_over_an_open_write
returns-clause-a_put_over_an_open_write c l = l.0.1.0.served.free 0 (write 0 2 2 9) (lit< tt) (meet 3 1 2 2 3 (lit≤ tt) (lit< tt) (lit≤ tt) (lit< tt))

pub returns-clause-a_put_under_an_open_name : goal.returns-clause-a_put_under_an_open_name
returns-clause-a_put_under_an_open_name c l = l.0.1.0.fresh 0 (write 0 2 1 9) (lit< tt) (refl, refl)

pub returns-clause-a_put_of_a_protected_sector : goal.returns-clause-a_put_of_a_protected_sector
returns-clause-a_put_of_a_protected_sector c l = l.0.0.unprotected (meet 5 2 6 2 6 (lit≤ tt) (lit< tt) (lit≤ tt) (lit< tt))

pub returns-clause-a_put_after_a_denial : goal.returns-clause-a_put_after_a_denial
returns-clause-a_put_after_a_denial c l = cc (l.0.1.0.not_frozen)

pub returns-clause-a_denial_of_nothing_protected : goal.returns-clause-a_denial_of_nothing_protected
returns-clause-a_denial_of_nothing_protected c l = apart 4 2 6 2 (lit≤ tt) l.0.0.2

pub returns-clause-a_second_denial : goal.returns-clause-a_second_denial
returns-clause-a_second_denial c l = cc (l.0.1.0.0)

pub returns-clause-a_refusal_before_any_denial : goal.returns-clause-a_refusal_before_any_denial
returns-clause-a_refusal_before_any_denial c l = cc (l.0.0.0)

pub returns-clause-an_end_without_a_put : goal.returns-clause-an_end_without_a_put
returns-clause-an_end_without_a_put c l = let some : l.0.0.is_open.put.0 < 0 = l.0.0.is_open.put.1 in absurd (omega arith)

pub returns-clause-a_second_end : goal.returns-clause-a_second_end
returns-clause-a_second_end c l = let some : l.0.1.1.0.is_open.put.0 < 0 = l.0.1.1.0.is_open.put.1 in absurd (omega arith)

pub returns-clause-an_end_of_another_count : goal.returns-clause-an_end_of_another_count
returns-clause-an_end_of_another_count c l =
    let same : write 0 2 1 9 ≡ l.0.1.0.write = the_only (write 0 2 1 9) l.0.1.0.write l.0.1.0.is_open.put in
    let count : 1 ≡ 2 = ap (sectors_of small) (ap (λ (w : Write). w.bytes) same) ∙ l.0.1.0.all in
    absurd (omega (arith, count))

pub returns-clause-a_loss_of_no_fragment : goal.returns-clause-a_loss_of_no_fragment
returns-clause-a_loss_of_no_fragment c l = let some : 0 < 0 = l.0.1.0.some in absurd (omega arith)

pub returns-clause-a_range_within_the_volume : goal.returns-clause-a_range_within_the_volume
returns-clause-a_range_within_the_volume c l = l.0.0 (lit≤ tt)
