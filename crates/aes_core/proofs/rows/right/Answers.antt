use Rattle.std.proofs.Common.{[], ◌∷◌, arith}
use Rattle.std.proofs.lemmas.Simd.{pick_l_left}
use Rattle.aes_core.specs.Laws.Planes.{lanes_right}
use Rattle.aes_core.proofs.rows.right.Goals as goal

pub returns : goal.returns
unfolding lanes_right
returns c =
    pick_l_left 0 c.args.plane c.args.plane 16
    (0 ∷ 1 ∷ 2 ∷ 3 ∷ 7 ∷ 4 ∷ 5 ∷ 6 ∷ 10 ∷ 11 ∷ 8 ∷ 9 ∷ 13 ∷ 14 ∷ 15 ∷ 12 ∷ []) (omega arith) tt
