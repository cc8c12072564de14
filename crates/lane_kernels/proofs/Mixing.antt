-- The linear transformation and its inverse as formulas, step by step as in the code.
use Rattle.std.proofs.Common.{◌≡◌, List, ℕ, refl, ◌∙◌}
use Rattle.lane_kernels.specs.SerpentRounds.{linear, inverse_linear}
use Rattle.lane_kernels.specs.Laws.Lanes.{lane, AreLanes, InEachLane}
use Rattle.lane_kernels.proofs.Formula.{Formula, word_0, word_1, word_2, word_3, odd, either, left, right, Formulas, made, made_lanes, in_lanes}

-- a word rotated left by j, and one rotated right by j, where j + k is 32
abbrev to_left : ℕ → ℕ → Formula → Formula
to_left j k f = either (left j f) (right k f)

abbrev to_right : ℕ → ℕ → Formula → Formula
to_right j k f = either (right j f) (left k f)

abbrev pub mixed : Formulas
mixed =
    let a1 : Formula = to_left 13 19 word_0 in
    let c1 : Formula = to_left 3 29 word_2 in
    let b1 : Formula = to_left 1 31 (odd (odd word_1 a1) c1) in
    let d1 : Formula = to_left 7 25 (odd (odd word_3 c1) (left 3 a1)) in
    let a2 : Formula = odd (odd a1 b1) d1 in
    let c2 : Formula = odd (odd c1 d1) (left 7 b1) in
    record { for_0 = to_left 5 27 a2; for_1 = b1; for_2 = to_left 22 10 c2; for_3 = d1 }

abbrev pub unmixed : Formulas
unmixed =
    let c1 : Formula = odd (odd (to_right 22 10 word_2) word_3) (left 7 word_1) in
    let a1 : Formula = odd (odd (to_right 5 27 word_0) word_1) word_3 in
    let d1 : Formula = odd (odd (to_right 7 25 word_3) c1) (left 3 a1) in
    let b1 : Formula = odd (odd (to_right 1 31 word_1) a1) c1 in
    record { for_0 = to_right 13 19 a1; for_1 = b1; for_2 = to_right 3 29 c1; for_3 = d1 }

pub mixed-is : (x : List ℕ) → made mixed x ≡ linear x
unfolding linear
mixed-is x = refl

pub unmixed-is : (x : List ℕ) → made unmixed x ≡ inverse_linear x
unfolding inverse_linear
unmixed-is x = refl

as_made : (fs : Formulas) (f : List ℕ → List ℕ) → ((x : List ℕ) → made fs x ≡ f x)
    → (x : List (List ℕ)) → AreLanes x → InEachLane f x (made_lanes fs x)
as_made fs f is x lanes =
    let all = in_lanes fs x lanes in
    record { lanes = all.lanes; each = λ j below. all.each j below ∙ is (lane j x) }

pub mixed-lanes : (x : List (List ℕ)) → AreLanes x → InEachLane linear x (made_lanes mixed x)
mixed-lanes x lanes = as_made mixed linear mixed-is x lanes

pub unmixed-lanes : (x : List (List ℕ)) → AreLanes x
    → InEachLane inverse_linear x (made_lanes unmixed x)
unmixed-lanes x lanes = as_made unmixed inverse_linear unmixed-is x lanes
