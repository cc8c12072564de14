use Rattle.std.proofs.Common.{sym, subst, arith}
use Rattle.vc_base.specs.Bytes.{IsBytes, piece}
use Rattle.vc_base.proofs.Bytes.{IsBytes-piece}
use Rattle.vc_base.specs.Words.{AreWords}
use Rattle.vc_base.proofs.FourWords.{words_of-words}
use Rattle.lane_kernels.proofs.LaneByLane.{are_lanes}
use Rattle.lane_kernels.proofs.gather.gather.Goals as goal

pub returns-clause-lanes : goal.returns-clause-lanes
returns-clause-lanes c =
    let inv = c.loop-j.invariant in
    let group = c.args.group.now in
    let bytes : IsBytes 128 group = record { count = c.requires; each = λ i. (c.type_inv.group i).fits } in
    are_lanes c.loop-j.a c.loop-j.b c.loop-j.c c.loop-j.d inv.long_a inv.long_b inv.long_c inv.long_d
    (λ k below. subst (AreWords 4) (sym (inv.states k (omega arith)))
    (words_of-words (piece 16 k group) (IsBytes-piece 128 16 k group bytes (omega arith))))
