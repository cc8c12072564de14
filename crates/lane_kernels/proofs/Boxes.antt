-- The formulas of the boxes, step by step as in the code, held against their tables.
use Rattle.std.proofs.Common.{◌≡◌, true, refl}
use Rattle.lane_kernels.specs.SerpentRounds.{entry, inverse_entry}
use Rattle.vc_base.specs.Bits.{number_below}
use Rattle.vc_base.proofs.EachNumber.{agree_below}
use Rattle.lane_kernels.proofs.Substituted.{entry_modulo, inverse_entry_modulo}
use Rattle.lane_kernels.proofs.Formula.{Formula, word_0, word_1, word_2, word_3, odd, both, either, neither, Formulas, made_of, Computes, computes}

abbrev s0 : Formulas
s0 =
    let b1 : Formula = odd word_1 (either word_0 word_3) in
    let a1 : Formula = odd word_0 word_3 in
    let d1 : Formula = odd word_3 (both b1 a1) in
    let a2 : Formula = odd a1 word_2 in
    let c1 : Formula = odd word_2 b1 in
    let b2 : Formula = odd b1 (both a2 d1) in
    let a3 : Formula = odd a2 d1 in
    let d2 : Formula = neither d1 in
    let d3 : Formula = odd d2 (both a3 c1) in
    let a4 : Formula = odd a3 d3 in
    record { for_0 = d3; for_1 = a4; for_2 = b2; for_3 = c1 }

computed_s0 : agree_below (made_of s0) (entry 0) 16 ≡ true
unfolding agree_below entry
computed_s0 = refl

pub s0-is : Computes s0 entry 0
s0-is = computes s0 entry 0 computed_s0 refl entry_modulo refl

abbrev s1 : Formulas
s1 =
    let c1 : Formula = odd word_2 (either word_0 word_1) in
    let b1 : Formula = odd word_1 word_0 in
    let a1 : Formula = odd word_0 c1 in
    let c2 : Formula = odd c1 (both b1 word_3) in
    let b2 : Formula = odd b1 (either c2 a1) in
    let a2 : Formula = neither a1 in
    let d1 : Formula = odd word_3 a2 in
    let b3 : Formula = odd b2 d1 in
    let a3 : Formula = odd a2 (both b3 c2) in
    let c3 : Formula = odd c2 b3 in
    record { for_0 = a3; for_1 = c3; for_2 = d1; for_3 = b3 }

computed_s1 : agree_below (made_of s1) (entry 1) 16 ≡ true
unfolding agree_below entry
computed_s1 = refl

pub s1-is : Computes s1 entry 1
s1-is = computes s1 entry 1 computed_s1 refl entry_modulo refl

abbrev s2 : Formulas
s2 =
    let c1 : Formula = odd word_2 word_1 in
    let b1 : Formula = odd word_1 (either word_0 word_3) in
    let d1 : Formula = odd word_3 (both c1 word_0) in
    let c2 : Formula = odd c1 (both b1 word_0) in
    let a1 : Formula = odd word_0 d1 in
    let a2 : Formula = odd a1 c2 in
    let c3 : Formula = odd c2 (either b1 d1) in
    let d2 : Formula = odd d1 (either b1 a2) in
    let b2 : Formula = odd b1 c3 in
    let c4 : Formula = odd c3 d2 in
    let b3 : Formula = neither b2 in
    record { for_0 = a2; for_1 = d2; for_2 = c4; for_3 = b3 }

computed_s2 : agree_below (made_of s2) (entry 2) 16 ≡ true
unfolding agree_below entry
computed_s2 = refl

pub s2-is : Computes s2 entry 2
s2-is = computes s2 entry 2 computed_s2 refl entry_modulo refl

abbrev s3 : Formulas
s3 =
    let d1 : Formula = odd word_3 word_1 in
    let b1 : Formula = odd word_1 (either d1 word_0) in
    let d2 : Formula = odd d1 word_2 in
    let c1 : Formula = odd word_2 (both word_0 d2) in
    let a1 : Formula = odd word_0 (either b1 d2) in
    let d3 : Formula = odd d2 (either c1 b1) in
    let b2 : Formula = odd b1 (both a1 d3) in
    let a2 : Formula = odd a1 d3 in
    let c2 : Formula = odd c1 (either b2 (both d3 a2)) in
    record { for_0 = b2; for_1 = d3; for_2 = a2; for_3 = c2 }

computed_s3 : agree_below (made_of s3) (entry 3) 16 ≡ true
unfolding agree_below entry
computed_s3 = refl

pub s3-is : Computes s3 entry 3
s3-is = computes s3 entry 3 computed_s3 refl entry_modulo refl

abbrev s4 : Formulas
s4 =
    let c1 : Formula = odd word_2 (both word_0 word_3) in
    let d1 : Formula = odd word_3 word_0 in
    let a1 : Formula = odd word_0 (either d1 word_1) in
    let d2 : Formula = odd d1 (either c1 a1) in
    let c2 : Formula = neither c1 in
    let c3 : Formula = odd c2 a1 in
    let a2 : Formula = odd a1 word_1 in
    let b1 : Formula = odd word_1 d2 in
    let d3 : Formula = odd d2 (both a2 c3) in
    let a3 : Formula = odd a2 (both c3 (either b1 d3)) in
    record { for_0 = c3; for_1 = a3; for_2 = b1; for_3 = d3 }

computed_s4 : agree_below (made_of s4) (entry 4) 16 ≡ true
unfolding agree_below entry
computed_s4 = refl

pub s4-is : Computes s4 entry 4
s4-is = computes s4 entry 4 computed_s4 refl entry_modulo refl

abbrev s5 : Formulas
s5 =
    let c1 : Formula = odd word_2 (either word_0 word_1) in
    let b1 : Formula = odd word_1 word_0 in
    let a1 : Formula = odd word_0 (both b1 word_3) in
    let d1 : Formula = neither word_3 in
    let c2 : Formula = odd c1 d1 in
    let a2 : Formula = odd a1 c2 in
    let b2 : Formula = odd b1 (both d1 a2) in
    let d2 : Formula = odd d1 (both c2 a2) in
    let c3 : Formula = odd c2 (both d2 (both b2 a2)) in
    let d3 : Formula = odd d2 b2 in
    record { for_0 = a2; for_1 = b2; for_2 = d3; for_3 = c3 }

computed_s5 : agree_below (made_of s5) (entry 5) 16 ≡ true
unfolding agree_below entry
computed_s5 = refl

pub s5-is : Computes s5 entry 5
s5-is = computes s5 entry 5 computed_s5 refl entry_modulo refl

abbrev s6 : Formulas
s6 =
    let a1 : Formula = odd word_0 word_3 in
    let c1 : Formula = odd word_2 word_1 in
    let d1 : Formula = odd word_3 (both c1 a1) in
    let c2 : Formula = odd c1 (both a1 d1) in
    let b1 : Formula = odd word_1 d1 in
    let d2 : Formula = neither d1 in
    let a2 : Formula = odd a1 d2 in
    let d3 : Formula = odd d2 c2 in
    let a3 : Formula = odd a2 (either b1 c2) in
    let c3 : Formula = odd c2 (both b1 a3) in
    let b2 : Formula = odd b1 a3 in
    record { for_0 = a3; for_1 = d3; for_2 = b2; for_3 = c3 }

computed_s6 : agree_below (made_of s6) (entry 6) 16 ≡ true
unfolding agree_below entry
computed_s6 = refl

pub s6-is : Computes s6 entry 6
s6-is = computes s6 entry 6 computed_s6 refl entry_modulo refl

abbrev s7 : Formulas
s7 =
    let b1 : Formula = odd word_1 word_2 in
    let d1 : Formula = odd word_3 (both b1 word_2) in
    let c1 : Formula = odd word_2 (either d1 (both b1 word_0)) in
    let b2 : Formula = odd b1 (both word_0 d1) in
    let a1 : Formula = odd word_0 c1 in
    let c2 : Formula = odd c1 b2 in
    let b3 : Formula = neither b2 in
    let b4 : Formula = odd b3 (either a1 d1) in
    let a2 : Formula = odd a1 c2 in
    let d2 : Formula = odd d1 (either a2 b4) in
    let b5 : Formula = odd b4 d2 in
    record { for_0 = d2; for_1 = c2; for_2 = b5; for_3 = a2 }

computed_s7 : agree_below (made_of s7) (entry 7) 16 ≡ true
unfolding agree_below entry
computed_s7 = refl

pub s7-is : Computes s7 entry 7
s7-is = computes s7 entry 7 computed_s7 refl entry_modulo refl

-- ---- their inverses

abbrev i0 : Formulas
i0 =
    let c1 : Formula = odd word_2 (both word_1 word_0) in
    let b1 : Formula = odd word_1 word_0 in
    let a1 : Formula = odd word_0 (both b1 word_3) in
    let d1 : Formula = odd word_3 c1 in
    let c2 : Formula = odd c1 b1 in
    let c3 : Formula = odd c2 (both a1 d1) in
    let a2 : Formula = odd a1 d1 in
    let d2 : Formula = neither d1 in
    let b2 : Formula = odd b1 d2 in
    let d3 : Formula = odd d2 (both a2 c3) in
    let a3 : Formula = odd a2 d3 in
    record { for_0 = a3; for_1 = c3; for_2 = b2; for_3 = d3 }

computed_i0 : agree_below (made_of i0) (inverse_entry 0) 16 ≡ true
unfolding agree_below entry inverse_entry number_below
computed_i0 = refl

pub i0-is : Computes i0 inverse_entry 0
i0-is = computes i0 inverse_entry 0 computed_i0 refl inverse_entry_modulo refl

abbrev i1 : Formulas
i1 =
    let c1 : Formula = odd word_2 (both word_3 word_1) in
    let d1 : Formula = odd word_3 word_1 in
    let a1 : Formula = odd word_0 word_1 in
    let b1 : Formula = odd word_1 (both a1 d1) in
    let a2 : Formula = odd a1 c1 in
    let b2 : Formula = neither b1 in
    let d2 : Formula = odd d1 a2 in
    let c2 : Formula = odd c1 (both a2 b2) in
    let b3 : Formula = odd b2 d2 in
    let a3 : Formula = odd a2 (either c2 b3) in
    let c3 : Formula = odd c2 d2 in
    let b4 : Formula = odd b3 c3 in
    record { for_0 = b4; for_1 = c3; for_2 = a3; for_3 = d2 }

computed_i1 : agree_below (made_of i1) (inverse_entry 1) 16 ≡ true
unfolding agree_below entry inverse_entry number_below
computed_i1 = refl

pub i1-is : Computes i1 inverse_entry 1
i1-is = computes i1 inverse_entry 1 computed_i1 refl inverse_entry_modulo refl

abbrev i2 : Formulas
i2 =
    let d1 : Formula = odd word_3 word_1 in
    let b1 : Formula = odd word_1 (both word_2 d1) in
    let a1 : Formula = odd word_0 d1 in
    let d2 : Formula = odd d1 word_2 in
    let c1 : Formula = odd word_2 (either b1 a1) in
    let d3 : Formula = neither d2 in
    let a2 : Formula = odd a1 (either d3 b1) in
    let c2 : Formula = odd c1 a2 in
    let b2 : Formula = odd b1 (both a2 c2) in
    let a3 : Formula = neither a2 in
    let d4 : Formula = odd d3 (either a3 c2) in
    record { for_0 = a3; for_1 = d4; for_2 = b2; for_3 = c2 }

computed_i2 : agree_below (made_of i2) (inverse_entry 2) 16 ≡ true
unfolding agree_below entry inverse_entry number_below
computed_i2 = refl

pub i2-is : Computes i2 inverse_entry 2
i2-is = computes i2 inverse_entry 2 computed_i2 refl inverse_entry_modulo refl

abbrev i3 : Formulas
i3 =
    let d1 : Formula = odd word_3 (both word_0 word_2) in
    let c1 : Formula = odd word_2 word_1 in
    let a1 : Formula = odd word_0 (both c1 word_1) in
    let b1 : Formula = odd word_1 (either a1 (both d1 c1)) in
    let b2 : Formula = odd b1 d1 in
    let c2 : Formula = odd c1 (either a1 d1) in
    let a2 : Formula = odd a1 (either b2 c2) in
    let d2 : Formula = odd d1 (both b2 a2) in
    let b3 : Formula = odd b2 a2 in
    record { for_0 = c2; for_1 = a2; for_2 = d2; for_3 = b3 }

computed_i3 : agree_below (made_of i3) (inverse_entry 3) 16 ≡ true
unfolding agree_below entry inverse_entry number_below
computed_i3 = refl

pub i3-is : Computes i3 inverse_entry 3
i3-is = computes i3 inverse_entry 3 computed_i3 refl inverse_entry_modulo refl

abbrev i4 : Formulas
i4 =
    let b1 : Formula = odd word_1 (both word_0 (either word_2 word_3)) in
    let a1 : Formula = neither word_0 in
    let c1 : Formula = odd word_2 word_3 in
    let c2 : Formula = odd c1 b1 in
    let d1 : Formula = odd word_3 (either a1 c2) in
    let c3 : Formula = odd c2 (both a1 b1) in
    let a2 : Formula = odd a1 c3 in
    let a3 : Formula = odd a2 (both d1 b1) in
    let b2 : Formula = odd b1 (both d1 c3) in
    let d2 : Formula = odd d1 b2 in
    record { for_0 = d2; for_1 = c3; for_2 = a3; for_3 = b2 }

computed_i4 : agree_below (made_of i4) (inverse_entry 4) 16 ≡ true
unfolding agree_below entry inverse_entry number_below
computed_i4 = refl

pub i4-is : Computes i4 inverse_entry 4
i4-is = computes i4 inverse_entry 4 computed_i4 refl inverse_entry_modulo refl

abbrev i5 : Formulas
i5 =
    let c1 : Formula = odd word_2 (either word_3 word_0) in
    let d1 : Formula = odd word_3 (both c1 (both word_1 word_0)) in
    let b1 : Formula = neither word_1 in
    let c2 : Formula = odd c1 b1 in
    let a1 : Formula = odd word_0 c2 in
    let d2 : Formula = odd d1 a1 in
    let a2 : Formula = neither a1 in
    let c3 : Formula = odd c2 (both b1 d2) in
    let b2 : Formula = odd b1 (either a2 d2) in
    let a3 : Formula = odd a2 (either b2 c3) in
    let b3 : Formula = odd b2 (both c3 d2) in
    record { for_0 = c3; for_1 = b3; for_2 = a3; for_3 = d2 }

computed_i5 : agree_below (made_of i5) (inverse_entry 5) 16 ≡ true
unfolding agree_below entry inverse_entry number_below
computed_i5 = refl

pub i5-is : Computes i5 inverse_entry 5
i5-is = computes i5 inverse_entry 5 computed_i5 refl inverse_entry_modulo refl

abbrev i6 : Formulas
i6 =
    let a1 : Formula = odd word_0 word_2 in
    let c1 : Formula = odd word_2 word_3 in
    let d1 : Formula = odd word_3 (either a1 c1) in
    let a2 : Formula = odd a1 word_1 in
    let c2 : Formula = odd c1 (either d1 a2) in
    let b1 : Formula = neither word_1 in
    let a3 : Formula = odd a2 (either d1 b1) in
    let b2 : Formula = odd b1 c2 in
    let d2 : Formula = odd d1 c2 in
    let c3 : Formula = odd c2 a3 in
    let a4 : Formula = odd a3 (both d2 b2) in
    let d3 : Formula = neither d2 in
    record { for_0 = b2; for_1 = c3; for_2 = a4; for_3 = d3 }

computed_i6 : agree_below (made_of i6) (inverse_entry 6) 16 ≡ true
unfolding agree_below entry inverse_entry number_below
computed_i6 = refl

pub i6-is : Computes i6 inverse_entry 6
i6-is = computes i6 inverse_entry 6 computed_i6 refl inverse_entry_modulo refl

abbrev i7 : Formulas
i7 =
    let c1 : Formula = odd word_2 word_0 in
    let a1 : Formula = odd word_0 (either word_3 c1) in
    let c2 : Formula = odd c1 (either word_1 a1) in
    let b1 : Formula = odd word_1 (both c2 (either a1 word_3)) in
    let c3 : Formula = neither c2 in
    let d1 : Formula = odd word_3 c3 in
    let d2 : Formula = odd d1 (both c3 a1) in
    let c4 : Formula = odd c3 (both d2 a1) in
    let a2 : Formula = odd a1 (both d2 b1) in
    let d3 : Formula = odd d2 b1 in
    record { for_0 = c4; for_1 = d3; for_2 = b1; for_3 = a2 }

computed_i7 : agree_below (made_of i7) (inverse_entry 7) 16 ≡ true
unfolding agree_below entry inverse_entry number_below
computed_i7 = refl

pub i7-is : Computes i7 inverse_entry 7
i7-is = computes i7 inverse_entry 7 computed_i7 refl inverse_entry_modulo refl
