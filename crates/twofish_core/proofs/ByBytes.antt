-- The functions h and g, a byte at a time.
--
-- Up to the matrix MDS no byte of the word affects another, so each layer goes by bytes. MDS times a
-- column is the sum of its own columns, each times one byte, and words add up as their bytes do. For g
-- the four words are entries of tables.
use Rattle.std.proofs.Common.{◌≡◌, List, [], ◌∷◌, ℕ, map, slice_index, bit_xor, refl, sym, ap, ap₂, ◌∙◌, subst, lit<, lit≤, w32, ◌<◌}
use Rattle.std.specs.Int.{to_le_bytes}
use Rattle.std.specs.Int.Bits.{xor_assoc, xor_zero_r}
use Rattle.vc_base.specs.Bytes.{IsBytes, xor_bytes, from_bytes, to_bytes}
use Rattle.vc_base.specs.Polynomial.{IsOfDegree, product}
use Rattle.vc_base.proofs.Bytes.{AreBytes-nil, AreBytes-cons, AreBytes-to_bytes, is_bytes, IsBytes-xor, from_bytes-xor}
use Rattle.vc_base.proofs.Remainders.{product_below}
use Rattle.vc_base.proofs.Words.{to_le_bytes_4}
use Rattle.twofish_core.specs.Twofish.{row_times, mds, mds_times, h, g_under}
use Rattle.twofish_core.specs.Laws.Columns.{mds_column, across, added_0, added_1, added_2, added_3, reversed, AreTables}
use Rattle.twofish_core.specs.Laws.Words.{same_four}

-- ---- MDS by its columns

degree : IsOfDegree 8 0x169
degree = record { leads = lit≤ tt; below = lit< tt }

abbrev times : ℕ → ℕ → ℕ
times a b = product 8 0x169 a b

-- column i of MDS times the byte y, as bytes
abbrev column_bytes : ℕ → ℕ → List ℕ
column_bytes i y = map (λ row. times (slice_index row i) y) mds

column_is_bytes : (i y : ℕ) → IsBytes 4 (column_bytes i y)
column_is_bytes i y =
    is_bytes 4 (column_bytes i y) refl
    (AreBytes-cons _ _ (product_below 8 0x169 _ y degree)
    (AreBytes-cons _ _ (product_below 8 0x169 _ y degree)
    (AreBytes-cons _ _ (product_below 8 0x169 _ y degree)
    (AreBytes-cons _ _ (product_below 8 0x169 _ y degree) AreBytes-nil))))

-- a row times a column, as the code adds it up
row_of_sums : (p q s t a b c d : ℕ)
    → bit_xor (bit_xor (times p a) (times q b)) (bit_xor (times s c) (times t d))
    ≡ row_times 0x169 (p ∷ q ∷ s ∷ t ∷ []) (a ∷ b ∷ c ∷ d ∷ [])
unfolding row_times
row_of_sums p q s t a b c d =
    xor_assoc (times p a) (times q b) (bit_xor (times s c) (times t d))
    ∙ ap (λ (x : ℕ). bit_xor (times p a) (bit_xor (times q b) (bit_xor (times s c) x)))
    (sym (xor_zero_r (times t d)))

-- the bytes that two columns, and so four, add up to
abbrev first_two : ℕ → ℕ → List ℕ
first_two a b = xor_bytes (column_bytes 0 a) (column_bytes 1 b)

abbrev last_two : ℕ → ℕ → List ℕ
last_two c d = xor_bytes (column_bytes 2 c) (column_bytes 3 d)

sum_of_columns : (a b c d : ℕ)
    → xor_bytes (first_two a b) (last_two c d) ≡ mds_times (a ∷ b ∷ c ∷ d ∷ [])
unfolding xor_bytes
sum_of_columns a b c d =
    same_four _ _ _ _ _ _ _ _
    (row_of_sums 0x01 0xef 0x5b 0x5b a b c d) (row_of_sums 0x5b 0xef 0xef 0x01 a b c d)
    (row_of_sums 0xef 0x5b 0x01 0xef a b c d) (row_of_sums 0xef 0x01 0xef 0x5b a b c d)

-- two columns, as words
sum_of_two : (i j x y : ℕ)
    → bit_xor (from_bytes (column_bytes i x)) (from_bytes (column_bytes j y))
    ≡ from_bytes (xor_bytes (column_bytes i x) (column_bytes j y))
sum_of_two i j x y =
    sym (from_bytes-xor 4 (column_bytes i x) (column_bytes j y)
    (column_is_bytes i x) (column_is_bytes j y))

two_are_bytes : (i j x y : ℕ) → IsBytes 4 (xor_bytes (column_bytes i x) (column_bytes j y))
two_are_bytes i j x y =
    IsBytes-xor 4 (column_bytes i x) (column_bytes j y) (column_is_bytes i x) (column_is_bytes j y)

mds_by_columns : (a b c d : ℕ)
    → bit_xor (bit_xor (mds_column 0 a) (mds_column 1 b))
    (bit_xor (mds_column 2 c) (mds_column 3 d))
    ≡ from_bytes (mds_times (a ∷ b ∷ c ∷ d ∷ []))
unfolding mds_column
mds_by_columns a b c d =
    ap₂ bit_xor (sum_of_two 0 1 a b) (sum_of_two 2 3 c d)
    ∙ sym (from_bytes-xor 4 (first_two a b) (last_two c d)
    (two_are_bytes 0 1 a b) (two_are_bytes 2 3 c d))
    ∙ ap from_bytes (sum_of_columns a b c d)

-- ---- the layers by bytes

-- what the four bytes x of a word add to h under the words l
abbrev pub by_bytes : List ℕ → List ℕ → ℕ
by_bytes l x =
    bit_xor (bit_xor (added_0 l (slice_index x 0)) (added_1 l (slice_index x 1)))
    (bit_xor (added_2 l (slice_index x 2)) (added_3 l (slice_index x 3)))

of_bytes : (x : ℕ) (l : List ℕ) → by_bytes l (to_bytes 4 x) ≡ h x l
unfolding h to_bytes xor_bytes across
of_bytes x l = mds_by_columns _ _ _ _

pub h_by_bytes : (x : ℕ) (l xs : List ℕ) → xs ≡ to_le_bytes w32 x → by_bytes l xs ≡ h x l
h_by_bytes x l xs x_is = ap (by_bytes l) (x_is ∙ to_le_bytes_4 x) ∙ of_bytes x l

-- ---- by the tables of g

byte_below : (x i : ℕ) (xs : List ℕ) → xs ≡ to_le_bytes w32 x → slice_index xs i < 256
byte_below x i xs x_is =
    subst (λ (ys : List ℕ). slice_index ys i < 256) (sym (x_is ∙ to_le_bytes_4 x))
    ((AreBytes-to_bytes 4 x).each i)

pub g_by_tables : (x : ℕ) (s t0 t1 t2 t3 xs : List ℕ) → AreTables s t0 t1 t2 t3
    → xs ≡ to_le_bytes w32 x
    → bit_xor (bit_xor (slice_index t0 (slice_index xs 0)) (slice_index t1 (slice_index xs 1)))
    (bit_xor (slice_index t2 (slice_index xs 2)) (slice_index t3 (slice_index xs 3)))
    ≡ g_under s x
g_by_tables x s t0 t1 t2 t3 xs tables x_is =
    let below : (i : ℕ) → slice_index xs i < 256 = λ i. byte_below x i xs x_is in
    ap₂ bit_xor
    (ap₂ bit_xor (tables.of_byte_0.at _ (below 0)) (tables.of_byte_1.at _ (below 1)))
    (ap₂ bit_xor (tables.of_byte_2.at _ (below 2)) (tables.of_byte_3.at _ (below 3)))
    ∙ h_by_bytes x (reversed s) xs x_is
