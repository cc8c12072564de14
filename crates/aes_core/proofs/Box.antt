-- The circuit of the S-box: its gates, and that they give the S-box.
use Rattle.std.proofs.Common.{◌≡◌, List, [], ◌∷◌, ℕ, true, refl, sym, ◌∙◌}
use Rattle.vc_base.specs.Bits.{of_bits}
use Rattle.vc_base.proofs.EachNumber.{agree_below, agree_at}
use Rattle.vc_base.proofs.Products.{horner}
use Rattle.aes_core.specs.Aes.{sub_byte, sub_bytes}
use Rattle.aes_core.specs.Laws.Field.{power_254, from_3, from_12, square}
use Rattle.aes_core.specs.Laws.Planes.{ArePlanes, InEachBlock}
use Rattle.aes_core.specs.Laws.Sbox.{forth, affine, sub_is_forth}
use Rattle.aes_core.proofs.Gates.{Gate, odd, both, either, given, run}
use Rattle.aes_core.proofs.OnPlanes.{on_planes, plane_inputs, on_byte, circuit_is}

abbrev pub box_gates : List Gate
box_gates =
    odd 7 5 ∷ odd 5 2 ∷ odd 1 0 ∷ odd 3 0 ∷ odd 10 0 ∷ odd 7 1 ∷ odd 9 0 ∷ odd 12 2 ∷ odd 2 0
    ∷ odd 16 0 ∷ odd 10 3 ∷ odd 15 0 ∷ odd 5 2 ∷ odd 5 1 ∷ odd 15 5 ∷ odd 11 5 ∷ odd 4 1 ∷ odd 6 1
    ∷ odd 19 4 ∷ both 6 0 ∷ either 10 14 ∷ either 14 4 ∷ either 19 23 ∷ both 19 14 ∷ both 24 9
    ∷ both 7 11 ∷ either 10 18 ∷ either 16 15 ∷ odd 3 1 ∷ odd 2 7 ∷ odd 25 6 ∷ odd 0 5 ∷ odd 3 0
    ∷ odd 10 5 ∷ odd 0 5 ∷ odd 14 5 ∷ odd 10 0 ∷ odd 36 9 ∷ odd 0 8 ∷ odd 19 0 ∷ both 7 3 ∷ odd 1 0
    ∷ odd 0 5 ∷ both 8 0 ∷ odd 0 11 ∷ both 3 0 ∷ odd 13 11 ∷ odd 6 3 ∷ both 1 0 ∷ odd 2 7
    ∷ both 10 0 ∷ odd 4 7 ∷ odd 3 19 ∷ odd 2 7 ∷ odd 3 17 ∷ odd 0 1 ∷ odd 3 4 ∷ odd 0 3 ∷ odd 2 5
    ∷ odd 4 7 ∷ both 8 41 ∷ both 8 55 ∷ both 5 45 ∷ both 8 64 ∷ both 8 55 ∷ both 11 50 ∷ both 6 52
    ∷ both 8 59 ∷ both 10 56 ∷ both 17 56 ∷ both 17 60 ∷ both 14 64 ∷ both 17 69 ∷ both 17 69
    ∷ both 20 74 ∷ both 15 57 ∷ both 17 60 ∷ both 19 66 ∷ odd 2 86 ∷ odd 0 2 ∷ odd 9 8 ∷ odd 0 1
    ∷ odd 18 13 ∷ odd 16 1 ∷ odd 19 1 ∷ odd 0 1 ∷ odd 11 6 ∷ odd 26 18 ∷ odd 14 1 ∷ odd 7 0
    ∷ odd 27 2 ∷ odd 21 20 ∷ odd 0 6 ∷ odd 17 15 ∷ odd 0 1 ∷ odd 29 12 ∷ odd 5 0 ∷ odd 24 10
    ∷ odd 0 5 ∷ odd 37 11 ∷ odd 0 16 ∷ odd 11 0 ∷ odd 34 110 ∷ odd 0 12 ∷ odd 0 18 ∷ []

abbrev pub box_places : List ℕ
box_places = 10 ∷ 23 ∷ 15 ∷ 8 ∷ 6 ∷ 19 ∷ 3 ∷ 0 ∷ []

computed : agree_below (on_byte box_gates box_places) forth 256 ≡ true
unfolding agree_below on_byte run forth affine of_bits power_254 from_3 from_12 square horner
computed = refl

pub box_is : (x : List (List ℕ)) → ArePlanes x
    → InEachBlock sub_bytes x (given on_planes box_gates box_places (plane_inputs x))
unfolding sub_bytes
box_is x planes =
    circuit_is box_gates box_places sub_byte x refl
    (λ b below. agree_at (on_byte box_gates box_places) forth 256 computed b below ∙ sym (sub_is_forth b below)) planes
