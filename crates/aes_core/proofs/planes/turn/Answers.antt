use Rattle.std.proofs.Common.{[], ◌∷◌, arith}
use Rattle.std.proofs.lemmas.Simd.{pick_l_left}
use Rattle.aes_core.specs.Laws.Planes.{by_rows}
use Rattle.aes_core.proofs.planes.turn.Goals as goal

pub returns : goal.returns
unfolding by_rows
returns c =
    pick_l_left 0 c.args.row c.args.row 16
    (0 ∷ 4 ∷ 8 ∷ 12 ∷ 1 ∷ 5 ∷ 9 ∷ 13 ∷ 2 ∷ 6 ∷ 10 ∷ 14 ∷ 3 ∷ 7 ∷ 11 ∷ 15 ∷ []) (omega arith) tt
