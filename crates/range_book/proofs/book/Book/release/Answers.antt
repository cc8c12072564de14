use Rattle.std.proofs.Common.{length, ap, ◌∙◌, arith}
use Rattle.range_book.specs.declared.reserved.Reserved.{Reserved}
use Rattle.range_book.proofs.Order.{added_back, apart_without}
use Rattle.range_book.proofs.book.Book.release.Goals as goal

pub invariant_of-self : goal.invariant_of-self
invariant_of-self c = (
  rw c.remove.ensures.items (apart_without c.self.inside.ranges.items c.in-Some.at
      (omega (arith, c.in-Some.ensures.bound, ap length c.deref.ensures.value)) c.self.invariant.0),
  omega (arith, c.remove.ensures.len, c.self.invariant),
  omega (arith, c.remove.ensures.capacity, c.self.invariant),
)

pub returns-clause-apart : goal.returns-clause-apart
returns-clause-apart c = (invariant_of-self c).0

pub returns-clause-removed : goal.returns-clause-removed
returns-clause-removed c =
    let r = c.remove.result in
    let named = rw c.deref.ensures.value at (c.in-Some.ensures.found r) in
    rw (← c.self.view_is, c.remove.ensures.items) (
      r,
      (
        ap (λ (x : Reserved). x.caller) c.remove.ensures.value ∙ named.0,
        ap (λ (x : Reserved). x.number) c.remove.ensures.value ∙ named.1,
      ),
      added_back c.self.inside.ranges.items c.in-Some.at r
          (omega (arith, c.in-Some.ensures.bound, ap length c.deref.ensures.value)) c.remove.ensures.value,
    )
