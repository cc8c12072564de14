use Rattle.std.proofs.Common.{[], ◌∷◌, arith}
use Rattle.std.proofs.lemmas.Simd.{pick_l_left}
use Rattle.aes_core.specs.Laws.Planes.{lanes_up}
use Rattle.aes_core.proofs.rows.up.Goals as goal

pub returns : goal.returns
unfolding lanes_up
returns c =
    pick_l_left 0 c.args.plane c.args.plane 16
    (4 ∷ 5 ∷ 6 ∷ 7 ∷ 8 ∷ 9 ∷ 10 ∷ 11 ∷ 12 ∷ 13 ∷ 14 ∷ 15 ∷ 0 ∷ 1 ∷ 2 ∷ 3 ∷ []) (omega arith) tt
