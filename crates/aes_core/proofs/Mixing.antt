-- MixColumns and its inverse, as sums of what stands below and of products by 2 and by 4.
--
-- On a column a, b, c, d row 0 is 2(a + b) + b + c + d. The inverse mixes the column that has a + 4(a + c) in
-- row 0, and so on; by linearity that is 14, 11, 13 and 9 times its bytes, which is computed at each byte. The
-- other rows are the same with the column turned.
use Rattle.std.proofs.Common.{◌≡◌, ◌<◌, ◌+◌, ◌/◌, ◌%◌, ◌*◌, List, [], ◌∷◌, ◌++◌, ℕ, true, refl, sym, ap, ap₂, ◌∙◌, bit_xor, lit<}
use Rattle.std.specs.Int.Bits.{xor_assoc, xor_zero_r}
use Rattle.std.proofs.lemmas.Nat.{xor_comm}
use Rattle.vc_base.specs.Bytes.{xor_bytes}
use Rattle.vc_base.specs.Polynomial.{product, times, remainder, coefficients}
use Rattle.vc_base.proofs.EachNumber.{agree_below, agree_at}
use Rattle.aes_core.specs.Aes.{mul, state, column_times, mix_row, inverse_mix_row, mix_columns, inverse_mix_columns}
use Rattle.aes_core.specs.Laws.Field.{mul_xor}
use Rattle.aes_core.specs.Laws.MixColumns.{quad, quad-ext, quad_turn, quad_quad}
use Rattle.aes_core.specs.Laws.Planes.{block_of, byte_of, InEachBlock, Added, row_below, two_rows_below, multiplied}
use Rattle.aes_core.proofs.OnPlanes.{byte_of-below}

-- ---- products of bytes by computing

computed_one : agree_below (mul 1) (λ b. b) 256 ≡ true
unfolding agree_below product times remainder coefficients
computed_one = refl

computed_three : agree_below (mul 3) (λ b. bit_xor b (mul 2 b)) 256 ≡ true
unfolding agree_below product times remainder coefficients
computed_three = refl

one : (b : ℕ) → b < 256 → mul 1 b ≡ b
one = agree_at (mul 1) (λ b. b) 256 computed_one

three : (b : ℕ) → b < 256 → mul 3 b ≡ bit_xor b (mul 2 b)
three = agree_at (mul 3) (λ b. bit_xor b (mul 2 b)) 256 computed_three

-- ---- a column

pub record AreBytes4 (a b c d : ℕ) : Type 0 where
  pub one : a < 256
  pub two : b < 256
  pub three : c < 256
  pub four : d < 256

turned_bytes : (a b c d : ℕ) → AreBytes4 a b c d → AreBytes4 b c d a
turned_bytes a b c d bytes = record { one = bytes.two; two = bytes.three; three = bytes.four; four = bytes.one }

abbrev mixed_row : ℕ → ℕ → ℕ → ℕ → ℕ
mixed_row a b c d = bit_xor (bit_xor (mul 2 (bit_xor a b)) b) (bit_xor c d)

mixed_first : (a b c d : ℕ) → AreBytes4 a b c d → mixed_row a b c d ≡ quad (mul 2 a) (mul 3 b) (mul 1 c) (mul 1 d)
mixed_first a b c d bytes =
    let pair : bit_xor (mul 2 (bit_xor a b)) b ≡ bit_xor (mul 2 a) (mul 3 b)
    = ap (λ (y : ℕ). bit_xor y b) (mul_xor 2 a b (lit< tt))
    ∙ xor_assoc (mul 2 a) (mul 2 b) b
    ∙ ap (bit_xor (mul 2 a)) (xor_comm (mul 2 b) b ∙ sym (three b bytes.two)) in
    ap₂ bit_xor pair (ap₂ bit_xor (sym (one c bytes.three)) (sym (one d bytes.four)))

mixed_column : (a b c d : ℕ) → AreBytes4 a b c d
    → mixed_row a b c d ∷ mixed_row b c d a ∷ mixed_row c d a b ∷ mixed_row d a b c ∷ []
    ≡ column_times mix_row (a ∷ b ∷ c ∷ d ∷ [])
mixed_column a b c d bytes =
    let bytes_1 = turned_bytes a b c d bytes in
    let bytes_2 = turned_bytes b c d a bytes_1 in
    let bytes_3 = turned_bytes c d a b bytes_2 in
    ap₂ ◌∷◌ (mixed_first a b c d bytes)
    (ap₂ ◌∷◌ (mixed_first b c d a bytes_1 ∙ sym (quad_turn (mul 1 a) (mul 2 b) (mul 3 c) (mul 1 d)))
    (ap₂ ◌∷◌ (mixed_first c d a b bytes_2
    ∙ sym (quad_turn (mul 1 a) (mul 1 b) (mul 2 c) (mul 3 d) ∙ quad_turn (mul 1 b) (mul 2 c) (mul 3 d) (mul 1 a)))
    (ap₂ ◌∷◌ (mixed_first d a b c bytes_3
    ∙ sym (quad_turn (mul 3 a) (mul 1 b) (mul 1 c) (mul 2 d) ∙ quad_turn (mul 1 b) (mul 1 c) (mul 2 d) (mul 3 a)
    ∙ quad_turn (mul 1 c) (mul 2 d) (mul 3 a) (mul 1 b)))
    refl)))

-- ---- the inverse, on a column

-- what is mixed: a + 4(a + c)
abbrev before : ℕ → ℕ → ℕ
before a c = bit_xor a (mul 4 (bit_xor a c))

-- p times that, apart by a and c
before_times : (p a c : ℕ) → p < 256 → mul p (before a c) ≡ bit_xor (bit_xor (mul p a) (mul p (mul 4 a))) (mul p (mul 4 c))
before_times p a c small =
    mul_xor p a (mul 4 (bit_xor a c)) small
    ∙ ap (λ (y : ℕ). bit_xor (mul p a) (mul p y)) (mul_xor 4 a c (lit< tt))
    ∙ ap (bit_xor (mul p a)) (mul_xor p (mul 4 a) (mul 4 c) small)
    ∙ sym (xor_assoc (mul p a) (mul p (mul 4 a)) (mul p (mul 4 c)))

abbrev own : ℕ → ℕ → ℕ
own p a = bit_xor (mul p a) (mul p (mul 4 a))

abbrev other : ℕ → ℕ → ℕ
other p a = mul p (mul 4 a)

computed_14 : agree_below (λ a. quad (own 2 a) 0 (other 1 a) 0) (mul 14) 256 ≡ true
unfolding agree_below product times remainder coefficients
computed_14 = refl

computed_11 : agree_below (λ b. quad 0 (own 3 b) 0 (other 1 b)) (mul 11) 256 ≡ true
unfolding agree_below product times remainder coefficients
computed_11 = refl

computed_13 : agree_below (λ c. quad (other 2 c) 0 (own 1 c) 0) (mul 13) 256 ≡ true
unfolding agree_below product times remainder coefficients
computed_13 = refl

computed_9 : agree_below (λ d. quad 0 (other 3 d) 0 (own 1 d)) (mul 9) 256 ≡ true
unfolding agree_below product times remainder coefficients
computed_9 = refl

-- x and y in the first and third place, or in the second and fourth
odd_places : (x y : ℕ) → bit_xor x y ≡ quad x 0 y 0
odd_places x y = ap₂ bit_xor (sym (xor_zero_r x)) (sym (xor_zero_r y))

even_places : (x y : ℕ) → bit_xor x y ≡ quad 0 x 0 y
even_places x y = refl

unmixed_first : (a b c d : ℕ) → AreBytes4 a b c d
    → quad (mul 2 (before a c)) (mul 3 (before b d)) (mul 1 (before c a)) (mul 1 (before d b))
    ≡ quad (mul 14 a) (mul 11 b) (mul 13 c) (mul 9 d)
unmixed_first a b c d bytes =
    quad-ext _ _ _ _ _ _ _ _
    (before_times 2 a c (lit< tt) ∙ odd_places (own 2 a) (other 2 c))
    (before_times 3 b d (lit< tt) ∙ even_places (own 3 b) (other 3 d))
    (before_times 1 c a (lit< tt) ∙ xor_comm (own 1 c) (other 1 a) ∙ odd_places (other 1 a) (own 1 c))
    (before_times 1 d b (lit< tt) ∙ xor_comm (own 1 d) (other 1 b) ∙ even_places (other 1 b) (own 1 d))
    ∙ quad_quad (own 2 a) 0 (other 2 c) 0 0 (own 3 b) 0 (other 3 d) (other 1 a) 0 (own 1 c) 0 0 (other 1 b) 0 (own 1 d)
    ∙ quad-ext _ _ _ _ _ _ _ _
    (agree_at (λ a. quad (own 2 a) 0 (other 1 a) 0) (mul 14) 256 computed_14 a bytes.one)
    (agree_at (λ b. quad 0 (own 3 b) 0 (other 1 b)) (mul 11) 256 computed_11 b bytes.two)
    (agree_at (λ c. quad (other 2 c) 0 (own 1 c) 0) (mul 13) 256 computed_13 c bytes.three)
    (agree_at (λ d. quad 0 (other 3 d) 0 (own 1 d)) (mul 9) 256 computed_9 d bytes.four)

unmixed_column : (a b c d : ℕ) → AreBytes4 a b c d
    → column_times mix_row (before a c ∷ before b d ∷ before c a ∷ before d b ∷ [])
    ≡ column_times inverse_mix_row (a ∷ b ∷ c ∷ d ∷ [])
unmixed_column a b c d bytes =
    let p = before a c in
    let q = before b d in
    let s = before c a in
    let t = before d b in
    let bytes_1 = turned_bytes a b c d bytes in
    let bytes_2 = turned_bytes b c d a bytes_1 in
    let bytes_3 = turned_bytes c d a b bytes_2 in
    ap₂ ◌∷◌ (unmixed_first a b c d bytes)
    (ap₂ ◌∷◌ (quad_turn (mul 1 p) (mul 2 q) (mul 3 s) (mul 1 t) ∙ unmixed_first b c d a bytes_1
    ∙ sym (quad_turn (mul 9 a) (mul 14 b) (mul 11 c) (mul 13 d)))
    (ap₂ ◌∷◌ (quad_turn (mul 1 p) (mul 1 q) (mul 2 s) (mul 3 t) ∙ quad_turn (mul 1 q) (mul 2 s) (mul 3 t) (mul 1 p)
    ∙ unmixed_first c d a b bytes_2
    ∙ sym (quad_turn (mul 13 a) (mul 9 b) (mul 14 c) (mul 11 d) ∙ quad_turn (mul 9 b) (mul 14 c) (mul 11 d) (mul 13 a)))
    (ap₂ ◌∷◌ (quad_turn (mul 3 p) (mul 1 q) (mul 1 s) (mul 2 t) ∙ quad_turn (mul 1 q) (mul 1 s) (mul 2 t) (mul 3 p)
    ∙ quad_turn (mul 1 s) (mul 2 t) (mul 3 p) (mul 1 q)
    ∙ unmixed_first d a b c bytes_3
    ∙ sym (quad_turn (mul 11 a) (mul 13 b) (mul 9 c) (mul 14 d) ∙ quad_turn (mul 13 b) (mul 9 c) (mul 14 d) (mul 11 a)
    ∙ quad_turn (mul 9 c) (mul 14 d) (mul 11 a) (mul 13 b)))
    refl)))

-- ---- whole states

-- the state with f l in lane l
abbrev laned : (ℕ → ℕ) → List ℕ
laned f = state (λ r c. f (r + 4 * c))

column_bytes : (f : ℕ → ℕ) → ((l : ℕ) → f l < 256) → (l : ℕ) → AreBytes4 (f l) (f (l + 1)) (f (l + 2)) (f (l + 3))
column_bytes f small l = record { one = small l; two = small (l + 1); three = small (l + 2); four = small (l + 3) }

pub mixed_state : (f : ℕ → ℕ) → ((l : ℕ) → f l < 256)
    → xor_bytes (xor_bytes (multiplied 2 (xor_bytes (laned f) (row_below (laned f)))) (row_below (laned f)))
    (two_rows_below (xor_bytes (laned f) (row_below (laned f))))
    ≡ mix_columns (laned f)
unfolding xor_bytes row_below two_rows_below multiplied mix_columns
mixed_state f small =
    ap₂ ◌++◌ (ap₂ ◌++◌ (ap₂ ◌++◌ (mixed_column (f 0) (f 1) (f 2) (f 3) (column_bytes f small 0))
    (mixed_column (f 4) (f 5) (f 6) (f 7) (column_bytes f small 4)))
    (mixed_column (f 8) (f 9) (f 10) (f 11) (column_bytes f small 8)))
    (mixed_column (f 12) (f 13) (f 14) (f 15) (column_bytes f small 12))

pub unmixed_state : (f : ℕ → ℕ) → ((l : ℕ) → f l < 256)
    → mix_columns (xor_bytes (laned f) (multiplied 4 (xor_bytes (laned f) (two_rows_below (laned f)))))
    ≡ inverse_mix_columns (laned f)
unfolding xor_bytes two_rows_below multiplied mix_columns inverse_mix_columns
unmixed_state f small =
    ap₂ ◌++◌ (ap₂ ◌++◌ (ap₂ ◌++◌ (unmixed_column (f 0) (f 1) (f 2) (f 3) (column_bytes f small 0))
    (unmixed_column (f 4) (f 5) (f 6) (f 7) (column_bytes f small 4)))
    (unmixed_column (f 8) (f 9) (f 10) (f 11) (column_bytes f small 8)))
    (unmixed_column (f 12) (f 13) (f 14) (f 15) (column_bytes f small 12))

-- ---- eight blocks

mixed_block : (s below sums doubled folded two y : List ℕ) → below ≡ row_below s → sums ≡ xor_bytes s below → doubled ≡ multiplied 2 sums
    → folded ≡ xor_bytes doubled below → two ≡ two_rows_below sums → y ≡ xor_bytes folded two
    → y ≡ xor_bytes (xor_bytes (multiplied 2 (xor_bytes s (row_below s))) (row_below s)) (two_rows_below (xor_bytes s (row_below s)))
mixed_block s below sums doubled folded two y a b c d e f = cc

pub mixed_is : (x below sums doubled folded two y : List (List ℕ)) → InEachBlock row_below x below → Added x below sums
    → InEachBlock (multiplied 2) sums doubled → Added doubled below folded → InEachBlock two_rows_below sums two → Added folded two y
    → InEachBlock mix_columns x y
mixed_is x below sums doubled folded two y a b c d e f = record {
  planes = f.planes;
  each = λ k small.
      mixed_block (block_of x k) (block_of below k) (block_of sums k) (block_of doubled k) (block_of folded k) (block_of two k) (block_of y k)
      (a.each k small) (b.each k small) (c.each k small) (d.each k small) (e.each k small) (f.each k small)
      ∙ mixed_state (λ (l : ℕ). byte_of x (4 * (l % 4) + l / 4) k) (λ l. byte_of-below x (4 * (l % 4) + l / 4) k);
}

unmixed_block : (s two sums quadrupled before y : List ℕ) → two ≡ two_rows_below s → sums ≡ xor_bytes s two → quadrupled ≡ multiplied 4 sums
    → before ≡ xor_bytes s quadrupled → y ≡ mix_columns before
    → y ≡ mix_columns (xor_bytes s (multiplied 4 (xor_bytes s (two_rows_below s))))
unmixed_block s two sums quadrupled before y a b c d e = cc

pub unmixed_is : (x two sums quadrupled before y : List (List ℕ)) → InEachBlock two_rows_below x two → Added x two sums
    → InEachBlock (multiplied 4) sums quadrupled → Added x quadrupled before → InEachBlock mix_columns before y
    → InEachBlock inverse_mix_columns x y
unmixed_is x two sums quadrupled before y a b c d e = record {
  planes = e.planes;
  each = λ k small.
      unmixed_block (block_of x k) (block_of two k) (block_of sums k) (block_of quadrupled k) (block_of before k) (block_of y k)
      (a.each k small) (b.each k small) (c.each k small) (d.each k small) (e.each k small)
      ∙ unmixed_state (λ (l : ℕ). byte_of x (4 * (l % 4) + l / 4) k) (λ l. byte_of-below x (4 * (l % 4) + l / 4) k);
}
