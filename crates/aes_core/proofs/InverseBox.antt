-- The circuit of the inverse S-box: its gates, and that they give the inverse S-box.
use Rattle.std.proofs.Common.{◌≡◌, List, [], ◌∷◌, ℕ, true, refl, sym, ◌∙◌}
use Rattle.vc_base.specs.Bits.{of_bits}
use Rattle.vc_base.proofs.EachNumber.{agree_below, agree_at}
use Rattle.vc_base.proofs.Products.{horner}
use Rattle.aes_core.specs.Aes.{inverse_sub_byte, inverse_sub_bytes}
use Rattle.aes_core.specs.Laws.Field.{power_254, from_3, from_12, square}
use Rattle.aes_core.specs.Laws.Planes.{ArePlanes, InEachBlock}
use Rattle.aes_core.specs.Laws.Sbox.{back, inverse_affine, inverse_affine_bit, inverse_sub_is_back}
use Rattle.aes_core.proofs.Gates.{Gate, odd, both, either, given, run}
use Rattle.aes_core.proofs.OnPlanes.{on_planes, plane_inputs, on_byte, circuit_is}

abbrev pub inverse_box_gates : List Gate
inverse_box_gates =
    odd 7 8 ∷ odd 7 9 ∷ odd 4 10 ∷ odd 4 11 ∷ odd 1 4 ∷ odd 4 8 ∷ odd 4 11 ∷ odd 6 4 ∷ odd 4 3
    ∷ odd 13 6 ∷ odd 4 3 ∷ odd 9 3 ∷ odd 3 2 ∷ odd 8 7 ∷ odd 12 14 ∷ odd 7 4 ∷ odd 1 0 ∷ odd 4 0
    ∷ odd 9 4 ∷ odd 24 3 ∷ odd 6 2 ∷ odd 11 0 ∷ either 12 20 ∷ both 1 15 ∷ either 3 12 ∷ both 16 18
    ∷ both 7 15 ∷ both 13 21 ∷ both 15 33 ∷ both 12 13 ∷ either 12 10 ∷ odd 1 0 ∷ odd 3 2
    ∷ odd 18 5 ∷ odd 7 0 ∷ odd 0 2 ∷ odd 8 10 ∷ odd 0 5 ∷ odd 5 13 ∷ odd 15 0 ∷ odd 35 17 ∷ odd 0 9
    ∷ odd 17 0 ∷ both 5 0 ∷ odd 8 6 ∷ odd 1 5 ∷ both 1 0 ∷ odd 3 0 ∷ both 12 0 ∷ odd 9 6 ∷ odd 14 6
    ∷ both 1 0 ∷ odd 0 6 ∷ both 13 0 ∷ odd 0 4 ∷ odd 3 15 ∷ odd 7 18 ∷ odd 10 21 ∷ odd 2 3
    ∷ odd 1 2 ∷ odd 3 5 ∷ odd 1 2 ∷ odd 0 1 ∷ both 3 61 ∷ both 6 56 ∷ both 8 53 ∷ both 7 59
    ∷ both 11 56 ∷ both 13 62 ∷ both 7 74 ∷ both 7 54 ∷ both 10 51 ∷ both 12 62 ∷ both 15 51
    ∷ both 17 53 ∷ both 16 66 ∷ both 20 57 ∷ both 22 63 ∷ both 16 65 ∷ both 16 62 ∷ both 19 62
    ∷ odd 15 10 ∷ odd 13 11 ∷ odd 6 4 ∷ odd 14 0 ∷ odd 13 21 ∷ odd 13 5 ∷ odd 11 6 ∷ odd 0 3
    ∷ odd 15 2 ∷ odd 11 0 ∷ odd 26 2 ∷ odd 17 6 ∷ odd 6 0 ∷ odd 0 2 ∷ odd 15 0 ∷ odd 18 11
    ∷ odd 0 2 ∷ odd 30 15 ∷ odd 0 3 ∷ odd 33 28 ∷ odd 0 18 ∷ odd 11 0 ∷ odd 21 11 ∷ odd 1 8
    ∷ odd 16 5 ∷ odd 36 8 ∷ odd 9 7 ∷ odd 22 26 ∷ []

abbrev pub inverse_box_places : List ℕ
inverse_box_places = 5 ∷ 4 ∷ 3 ∷ 2 ∷ 6 ∷ 18 ∷ 1 ∷ 0 ∷ []

computed : agree_below (on_byte inverse_box_gates inverse_box_places) back 256 ≡ true
unfolding agree_below on_byte run back inverse_affine inverse_affine_bit of_bits power_254 from_3 from_12 square horner
computed = refl

pub inverse_box_is : (x : List (List ℕ)) → ArePlanes x
    → InEachBlock inverse_sub_bytes x (given on_planes inverse_box_gates inverse_box_places (plane_inputs x))
unfolding inverse_sub_bytes
inverse_box_is x planes =
    circuit_is inverse_box_gates inverse_box_places inverse_sub_byte x refl
    (λ b below. agree_at (on_byte inverse_box_gates inverse_box_places) back 256 computed b below ∙ sym (inverse_sub_is_back b below)) planes
