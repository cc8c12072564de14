use Rattle.std.proofs.Common.{ℕ, ◌<◌, get_or}
use Rattle.range_book.specs.declared.reserved.Reserved.{Reserved}
use Rattle.range_book.specs.Book.{HasName}
use Rattle.range_book.proofs.reserved.place_of.Given as goal

abbrev pub invariant-loop-i : goal.invariant-loop-i
invariant-loop-i l = (k : ℕ) (d : Reserved) → k < l.i → HasName l.caller l.number (get_or l.ranges k d) → ⊥
