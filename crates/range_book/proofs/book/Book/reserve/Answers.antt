use Rattle.std.proofs.Common.{length, ap, arith}
use Rattle.range_book.proofs.Order.{apart_with}
use Rattle.range_book.proofs.book.Book.reserve.Goals as goal

pub invariant_of-self : goal.invariant_of-self
invariant_of-self c =
    let room = rw (← c.self.view_is) at c.requires.room in (
      rw c.in-Ok.ensures.items (apart_with c.self.inside.ranges.items c.over_by-at.result _ c.self.invariant.0
          (omega (arith, c.over_by-at.ensures.bound, ap length c.deref.ensures.value))
          (rw c.deref.ensures.value at c.over_by-at.ensures.over) (rw c.deref.ensures.value at c.over_by-at.ensures.going_on)
          (rw (← c.self.view_is) at c.requires.free) c.requires.some c.requires.within
          (rw (← c.self.view_is) at c.requires.fresh)),
      omega (arith, room, c.in-Ok.ensures.len, c.self.invariant),
      omega (arith, c.in-Ok.ensures.capacity, c.self.invariant),
    )

pub returns-clause-apart : goal.returns-clause-apart
returns-clause-apart c = (invariant_of-self c).0
