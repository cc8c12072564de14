use Rattle.std.proofs.Common.{◌<◌, length, ap, refl, arith}
use Rattle.range_book.proofs.Meeting.{first_meets, none_meets}
use Rattle.range_book.proofs.book.Book.meets.Goals as goal

pub returns-then-overlaps-clause-lowest : goal.returns-then-overlaps-clause-lowest
returns-then-overlaps-clause-lowest c =
    let rs = c.self.inside.ranges.items in
    let inside : c.over_by-at.result < length rs =
    omega (arith, c.over_by-at.ensures.bound, c.deref.ensures.len, ap length c.deref.ensures.value, c.len.ensures) in
    rw (← c.self.view_is) (
      c.index-range.result.now,
      first_meets rs c.over_by-at.result c.args.first c.args.count c.index-range.result.now c.self.invariant.0
          (rw c.deref.ensures.value at c.over_by-at.ensures.over) inside c.index-range.ensures (c.overlaps.ensures.0 c.if-overlaps.true),
      (refl, refl),
    )

pub returns-else-overlaps-clause-none : goal.returns-else-overlaps-clause-none
returns-else-overlaps-clause-none c =
    let rs = c.self.inside.ranges.items in
    let inside : c.over_by-at.result < length rs =
    omega (arith, c.over_by-at.ensures.bound, c.deref.ensures.len, ap length c.deref.ensures.value, c.len.ensures) in
    rw (← c.self.view_is) (
      λ _. none_meets rs c.over_by-at.result c.args.first c.args.count c.index-range.result.now c.self.invariant.0
          (rw c.deref.ensures.value at c.over_by-at.ensures.over) (rw c.deref.ensures.value at c.over_by-at.ensures.going_on)
          inside c.index-range.ensures (λ met. let yes = c.overlaps.ensures.1 met in cc),
      λ _. refl,
    )
