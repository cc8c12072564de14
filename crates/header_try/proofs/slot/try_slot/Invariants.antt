use Rattle.std.proofs.Common.{◌≡◌, None, find, take}
use Rattle.algorithm_names.specs.Algorithms.{all_algorithms}
use Rattle.vc_header.specs.Laws.Tests.{is_valid}
use Rattle.header_seal.specs.Sealed.{plain_under}
use Rattle.header_try.proofs.slot.try_slot.Given as goal

-- no algorithm before this one makes the header valid
abbrev pub invariant-loop-i : goal.invariant-loop-i
invariant-loop-i l =
    find (λ a. is_valid (plain_under a l.fn.derived l.fn.header) l.fn.slot l.fn.len) (take l.i all_algorithms) ≡ None
