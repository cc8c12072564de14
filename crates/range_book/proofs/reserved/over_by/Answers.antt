use Rattle.std.proofs.Common.{◌+◌, leb, rules, tests}
use Rattle.std.proofs.lemmas.Bool.{leb-true, leb-false}
use Rattle.std.proofs.lemmas.List.Sorted.{IsPartitionedBy-leb, IsPartitionPoint-from_clause}
use Rattle.range_book.proofs.Order.{ends_rise}
use Rattle.range_book.proofs.reserved.over_by.Goals as goal

pub returns : goal.returns
returns c =
    let rs = c.args.ranges.now in
    let point = IsPartitionPoint-from_clause (λ r. leb (r.first + r.count) c.args.place) rs c.partition_point.result
    c.partition_point.ensures.partitioned
    (IsPartitionedBy-leb (λ r. r.first + r.count) rs c.args.place (ends_rise rs c.requires))
    (λ a r f h. search (rules, tests)) in
    record {
      bound = c.partition_point.ensures.bound;
      over = λ k d from below. leb-true _ _ (point.0 k d from below);
      going_on = λ k d from within. leb-false _ _ (point.1 k d from within);
    }
