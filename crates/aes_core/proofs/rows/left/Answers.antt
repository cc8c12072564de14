use Rattle.std.proofs.Common.{[], ◌∷◌, arith}
use Rattle.std.proofs.lemmas.Simd.{pick_l_left}
use Rattle.aes_core.specs.Laws.Planes.{lanes_left}
use Rattle.aes_core.proofs.rows.left.Goals as goal

pub returns : goal.returns
unfolding lanes_left
returns c =
    pick_l_left 0 c.args.plane c.args.plane 16
    (0 ∷ 1 ∷ 2 ∷ 3 ∷ 5 ∷ 6 ∷ 7 ∷ 4 ∷ 10 ∷ 11 ∷ 8 ∷ 9 ∷ 15 ∷ 12 ∷ 13 ∷ 14 ∷ []) (omega arith) tt
