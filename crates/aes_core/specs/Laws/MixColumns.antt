-- MixColumns and its inverse undo each other on a column.
--
-- Row r of one matrix times what the other makes of the column a, b, c, d is a sum of 16 products. By
-- linearity it may be taken over a, b, c and d first, and then each part is the byte itself or 0. The
-- rows turn together, so the first row of either matrix says it all: four facts on 256 bytes, computed.
use Rattle.std.proofs.Common.{◌≡◌, ◌<◌, List, [], ◌∷◌, ℕ, true, refl, sym, ap, ap₂, ◌∙◌, bit_xor, lit<}
use Rattle.std.specs.Int.Bits.{xor_assoc, xor_zero_r}
use Rattle.std.proofs.lemmas.Nat.{xor_comm, xor_of_8}
use Rattle.vc_base.specs.Polynomial.{product, times, remainder, coefficients}
use Rattle.vc_base.proofs.Xor.{xor_middle}
use Rattle.aes_core.specs.Aes.{mul, column_times, row_times, mix_row, inverse_mix_row}
use Rattle.vc_base.proofs.EachNumber.{agree_below, agree_at}
use Rattle.aes_core.specs.Laws.Field.{mul_below, mul_xor}

-- ---- sums of four

abbrev pub quad : ℕ → ℕ → ℕ → ℕ → ℕ
quad a b c d = bit_xor (bit_xor a b) (bit_xor c d)

pub quad-ext : (a b c d e f g h : ℕ) → a ≡ e → b ≡ f → c ≡ g → d ≡ h → quad a b c d ≡ quad e f g h
quad-ext a b c d e f g h p q r s = ap₂ bit_xor (ap₂ bit_xor p q) (ap₂ bit_xor r s)

pub quad_turn : (a b c d : ℕ) → quad a b c d ≡ quad b c d a
quad_turn a b c d =
    xor_assoc a b (bit_xor c d) ∙ xor_comm a (bit_xor b (bit_xor c d))
    ∙ ap (λ (x : ℕ). bit_xor x a) (sym (xor_assoc b c d)) ∙ xor_assoc (bit_xor b c) d a

quad_xor : (a b c d e f g h : ℕ) → bit_xor (quad a b c d) (quad e f g h) ≡ quad (bit_xor a e) (bit_xor b f) (bit_xor c g) (bit_xor d h)
quad_xor a b c d e f g h =
    xor_middle (bit_xor a b) (bit_xor c d) (bit_xor e f) (bit_xor g h)
    ∙ ap₂ bit_xor (xor_middle a b e f) (xor_middle c d g h)

pub quad_quad : (a b c d e f g h i j k l m n o p : ℕ)
    → quad (quad a b c d) (quad e f g h) (quad i j k l) (quad m n o p) ≡ quad (quad a e i m) (quad b f j n) (quad c g k o) (quad d h l p)
quad_quad a b c d e f g h i j k l m n o p =
    ap₂ bit_xor (quad_xor a b c d e f g h) (quad_xor i j k l m n o p)
    ∙ quad_xor (bit_xor a e) (bit_xor b f) (bit_xor c g) (bit_xor d h) (bit_xor i m) (bit_xor j n) (bit_xor k o) (bit_xor l p)

quad_first : (a : ℕ) → quad a 0 0 0 ≡ a
quad_first a = xor_zero_r (bit_xor a 0) ∙ xor_zero_r a

quad_second : (a : ℕ) → quad 0 a 0 0 ≡ a
quad_second a = xor_zero_r a

quad_third : (a : ℕ) → quad 0 0 a 0 ≡ a
quad_third a = xor_zero_r a

mul_quad : (p a b c d : ℕ) → p < 256 → mul p (quad a b c d) ≡ quad (mul p a) (mul p b) (mul p c) (mul p d)
mul_quad p a b c d below =
    mul_xor p (bit_xor a b) (bit_xor c d) below ∙ ap₂ bit_xor (mul_xor p a b below) (mul_xor p c d below)

-- ---- a row of one matrix times a column of the other

-- the part of x
abbrev part : ℕ → ℕ → ℕ → ℕ → ℕ → ℕ → ℕ → ℕ → ℕ → ℕ
part p q s t u v w z x = quad (mul p (mul u x)) (mul q (mul v x)) (mul s (mul w x)) (mul t (mul z x))

abbrev row_of : ℕ → ℕ → ℕ → ℕ → ℕ → ℕ → ℕ → ℕ → ℕ
row_of p q s t a b c d = quad (mul p a) (mul q b) (mul s c) (mul t d)

record AreBytes4 (p q s t : ℕ) : Type 0 where
  one : p < 256
  two : q < 256
  three : s < 256
  four : t < 256

-- over the column's bytes first: u, v, w and z is the first row of the other matrix
row_spread : (p q s t u v w z a b c d : ℕ) → AreBytes4 p q s t
    → row_of p q s t (row_of u v w z a b c d) (row_of z u v w a b c d) (row_of w z u v a b c d) (row_of v w z u a b c d)
    ≡ quad (part p q s t u z w v a) (part p q s t v u z w b) (part p q s t w v u z c) (part p q s t z w v u d)
row_spread p q s t u v w z a b c d below =
    quad-ext _ _ _ _ _ _ _ _
    (mul_quad p (mul u a) (mul v b) (mul w c) (mul z d) below.one)
    (mul_quad q (mul z a) (mul u b) (mul v c) (mul w d) below.two)
    (mul_quad s (mul w a) (mul z b) (mul u c) (mul v d) below.three)
    (mul_quad t (mul v a) (mul w b) (mul z c) (mul u d) below.four)
    ∙ quad_quad (mul p (mul u a)) (mul p (mul v b)) (mul p (mul w c)) (mul p (mul z d))
    (mul q (mul z a)) (mul q (mul u b)) (mul q (mul v c)) (mul q (mul w d))
    (mul s (mul w a)) (mul s (mul z b)) (mul s (mul u c)) (mul s (mul v d))
    (mul t (mul v a)) (mul t (mul w b)) (mul t (mul z c)) (mul t (mul u d))

-- p, q, s and t is the first row of a matrix which undoes the one whose first row is u, v, w and z
record Undoes (p q s t u v w z : ℕ) : Type 0 where
  below : AreBytes4 p q s t
  below_1 : AreBytes4 t p q s
  below_2 : AreBytes4 s t p q
  below_3 : AreBytes4 q s t p
  same : (x : ℕ) → x < 256 → part p q s t u z w v x ≡ x
  none_1 : (x : ℕ) → x < 256 → part p q s t v u z w x ≡ 0
  none_2 : (x : ℕ) → x < 256 → part p q s t w v u z x ≡ 0
  none_3 : (x : ℕ) → x < 256 → part p q s t z w v u x ≡ 0

part_turn : (p q s t u v w z x : ℕ) → part t p q s z u v w x ≡ part p q s t u v w z x
part_turn p q s t u v w z x = quad_turn (mul t (mul z x)) (mul p (mul u x)) (mul q (mul v x)) (mul s (mul w x))

column_undone : (p q s t u v w z a b c d : ℕ) → Undoes p q s t u v w z → AreBytes4 a b c d
    → column_times (p ∷ q ∷ s ∷ t ∷ []) (column_times (u ∷ v ∷ w ∷ z ∷ []) (a ∷ b ∷ c ∷ d ∷ [])) ≡ a ∷ b ∷ c ∷ d ∷ []
column_undone p q s t u v w z a b c d undoes bytes =
    let a_below = bytes.one in
    let b_below = bytes.two in
    let c_below = bytes.three in
    let d_below = bytes.four in
    let turn_2 : (u v w z x : ℕ) → part s t p q w z u v x ≡ part p q s t u v w z x
    = λ u v w z x. part_turn t p q s z u v w x ∙ part_turn p q s t u v w z x in
    let turn_3 : (u v w z x : ℕ) → part q s t p v w z u x ≡ part p q s t u v w z x
    = λ u v w z x. part_turn s t p q w z u v x ∙ turn_2 u v w z x in
    ap₂ ◌∷◌
    (row_spread p q s t u v w z a b c d undoes.below
    ∙ quad-ext _ _ _ _ _ _ _ _ (undoes.same a a_below) (undoes.none_1 b b_below) (undoes.none_2 c c_below) (undoes.none_3 d d_below)
    ∙ quad_first a)
    (ap₂ ◌∷◌
    (row_spread t p q s u v w z a b c d undoes.below_1
    ∙ quad-ext _ _ _ _ _ _ _ _
    (part_turn p q s t z w v u a ∙ undoes.none_3 a a_below)
    (part_turn p q s t u z w v b ∙ undoes.same b b_below)
    (part_turn p q s t v u z w c ∙ undoes.none_1 c c_below)
    (part_turn p q s t w v u z d ∙ undoes.none_2 d d_below)
    ∙ quad_second b)
    (ap₂ ◌∷◌
    (row_spread s t p q u v w z a b c d undoes.below_2
    ∙ quad-ext _ _ _ _ _ _ _ _
    (turn_2 w v u z a ∙ undoes.none_2 a a_below)
    (turn_2 z w v u b ∙ undoes.none_3 b b_below)
    (turn_2 u z w v c ∙ undoes.same c c_below)
    (turn_2 v u z w d ∙ undoes.none_1 d d_below)
    ∙ quad_third c)
    (ap₂ ◌∷◌
    (row_spread q s t p u v w z a b c d undoes.below_3
    ∙ quad-ext _ _ _ _ _ _ _ _
    (turn_3 v u z w a ∙ undoes.none_1 a a_below)
    (turn_3 w v u z b ∙ undoes.none_2 b b_below)
    (turn_3 z w v u c ∙ undoes.none_3 c c_below)
    (turn_3 u z w v d ∙ undoes.same d d_below))
    refl)))

-- ---- the two matrices

forth_same : agree_below (part 14 11 13 9 2 1 1 3) (λ x. x) 256 ≡ true
unfolding agree_below product times remainder coefficients
forth_same = refl

forth_1 : agree_below (part 14 11 13 9 3 2 1 1) (λ x. 0) 256 ≡ true
unfolding agree_below product times remainder coefficients
forth_1 = refl

forth_2 : agree_below (part 14 11 13 9 1 3 2 1) (λ x. 0) 256 ≡ true
unfolding agree_below product times remainder coefficients
forth_2 = refl

forth_3 : agree_below (part 14 11 13 9 1 1 3 2) (λ x. 0) 256 ≡ true
unfolding agree_below product times remainder coefficients
forth_3 = refl

back_same : agree_below (part 2 3 1 1 14 9 13 11) (λ x. x) 256 ≡ true
unfolding agree_below product times remainder coefficients
back_same = refl

back_1 : agree_below (part 2 3 1 1 11 14 9 13) (λ x. 0) 256 ≡ true
unfolding agree_below product times remainder coefficients
back_1 = refl

back_2 : agree_below (part 2 3 1 1 13 11 14 9) (λ x. 0) 256 ≡ true
unfolding agree_below product times remainder coefficients
back_2 = refl

back_3 : agree_below (part 2 3 1 1 9 13 11 14) (λ x. 0) 256 ≡ true
unfolding agree_below product times remainder coefficients
back_3 = refl

inverse_undoes : Undoes 14 11 13 9 2 3 1 1
inverse_undoes = record {
  below = record { one = lit< tt; two = lit< tt; three = lit< tt; four = lit< tt };
  below_1 = record { one = lit< tt; two = lit< tt; three = lit< tt; four = lit< tt };
  below_2 = record { one = lit< tt; two = lit< tt; three = lit< tt; four = lit< tt };
  below_3 = record { one = lit< tt; two = lit< tt; three = lit< tt; four = lit< tt };
  same = λ x below. agree_at (part 14 11 13 9 2 1 1 3) (λ x. x) 256 forth_same x below;
  none_1 = λ x below. agree_at (part 14 11 13 9 3 2 1 1) (λ x. 0) 256 forth_1 x below;
  none_2 = λ x below. agree_at (part 14 11 13 9 1 3 2 1) (λ x. 0) 256 forth_2 x below;
  none_3 = λ x below. agree_at (part 14 11 13 9 1 1 3 2) (λ x. 0) 256 forth_3 x below;
}

mix_undoes : Undoes 2 3 1 1 14 11 13 9
mix_undoes = record {
  below = record { one = lit< tt; two = lit< tt; three = lit< tt; four = lit< tt };
  below_1 = record { one = lit< tt; two = lit< tt; three = lit< tt; four = lit< tt };
  below_2 = record { one = lit< tt; two = lit< tt; three = lit< tt; four = lit< tt };
  below_3 = record { one = lit< tt; two = lit< tt; three = lit< tt; four = lit< tt };
  same = λ x below. agree_at (part 2 3 1 1 14 9 13 11) (λ x. x) 256 back_same x below;
  none_1 = λ x below. agree_at (part 2 3 1 1 11 14 9 13) (λ x. 0) 256 back_1 x below;
  none_2 = λ x below. agree_at (part 2 3 1 1 13 11 14 9) (λ x. 0) 256 back_2 x below;
  none_3 = λ x below. agree_at (part 2 3 1 1 9 13 11 14) (λ x. 0) 256 back_3 x below;
}

pub mix_column_undone : (a b c d : ℕ) → a < 256 → b < 256 → c < 256 → d < 256
    → column_times inverse_mix_row (column_times mix_row (a ∷ b ∷ c ∷ d ∷ [])) ≡ a ∷ b ∷ c ∷ d ∷ []
mix_column_undone a b c d a_below b_below c_below d_below =
    column_undone 14 11 13 9 2 3 1 1 a b c d inverse_undoes (record { one = a_below; two = b_below; three = c_below; four = d_below })

pub mix_column_done : (a b c d : ℕ) → a < 256 → b < 256 → c < 256 → d < 256
    → column_times mix_row (column_times inverse_mix_row (a ∷ b ∷ c ∷ d ∷ [])) ≡ a ∷ b ∷ c ∷ d ∷ []
mix_column_done a b c d a_below b_below c_below d_below =
    column_undone 2 3 1 1 14 11 13 9 a b c d mix_undoes (record { one = a_below; two = b_below; three = c_below; four = d_below })

pub row_times-below : (first : List ℕ) (r : ℕ) (x : List ℕ) → row_times first r x < 256
row_times-below first r x =
    xor_of_8 _ _ (xor_of_8 _ _ (mul_below _ _) (mul_below _ _)) (xor_of_8 _ _ (mul_below _ _) (mul_below _ _))
