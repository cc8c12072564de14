-- The circuits that multiply each byte by 2 and by 4.
use Rattle.std.proofs.Common.{◌≡◌, List, [], ◌∷◌, ℕ, true, refl}
use Rattle.vc_base.specs.Bits.{of_bits}
use Rattle.vc_base.specs.Polynomial.{product, times, remainder, coefficients}
use Rattle.vc_base.proofs.EachNumber.{agree_below, agree_at}
use Rattle.aes_core.specs.Aes.{mul}
use Rattle.aes_core.specs.Laws.Planes.{ArePlanes, InEachBlock, multiplied}
use Rattle.aes_core.proofs.Gates.{Gate, odd, given, run}
use Rattle.aes_core.proofs.OnPlanes.{on_planes, plane_inputs, on_byte, circuit_is}

abbrev pub double_gates : List Gate
double_gates = odd 7 0 ∷ odd 6 1 ∷ odd 6 2 ∷ []

abbrev pub double_places : List ℕ
double_places = 3 ∷ 2 ∷ 9 ∷ 1 ∷ 0 ∷ 6 ∷ 5 ∷ 4 ∷ []

computed_double : agree_below (on_byte double_gates double_places) (mul 2) 256 ≡ true
unfolding agree_below on_byte run of_bits product times remainder coefficients
computed_double = refl

pub double_is : (x : List (List ℕ)) → ArePlanes x
    → InEachBlock (multiplied 2) x (given on_planes double_gates double_places (plane_inputs x))
unfolding multiplied
double_is x planes =
    circuit_is double_gates double_places (mul 2) x refl
    (agree_at (on_byte double_gates double_places) (mul 2) 256 computed_double) planes

abbrev pub quadruple_gates : List Gate
quadruple_gates = odd 1 0 ∷ odd 8 1 ∷ odd 8 3 ∷ odd 8 2 ∷ odd 8 4 ∷ []

abbrev pub quadruple_places : List ℕ
quadruple_places = 6 ∷ 4 ∷ 3 ∷ 2 ∷ 1 ∷ 0 ∷ 8 ∷ 7 ∷ []

computed_quadruple : agree_below (on_byte quadruple_gates quadruple_places) (mul 4) 256 ≡ true
unfolding agree_below on_byte run of_bits product times remainder coefficients
computed_quadruple = refl

pub quadruple_is : (x : List (List ℕ)) → ArePlanes x
    → InEachBlock (multiplied 4) x (given on_planes quadruple_gates quadruple_places (plane_inputs x))
unfolding multiplied
quadruple_is x planes =
    circuit_is quadruple_gates quadruple_places (mul 4) x refl
    (agree_at (on_byte quadruple_gates quadruple_places) (mul 4) 256 computed_quadruple) planes
