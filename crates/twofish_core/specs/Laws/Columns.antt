-- What one byte of a word adds to the function h, and to the function g of a key.
--
-- Up to the matrix MDS no byte of a word affects another, and MDS times a column is the sum of its own
-- columns, each times one byte. So h is the XOR of four words, one for each byte.
use Rattle.std.specs.Prelude.{◌≡◌, ◌<◌, ℕ, List, [], ◌∷◌, length, map, slice_index, bit_xor}
use Rattle.vc_base.specs.Bytes.{from_bytes, to_bytes}
use Rattle.vc_base.specs.Polynomial.{product}
use Rattle.twofish_core.specs.Twofish.{q0, q1, mds}

-- column i of MDS times the byte y, as a word
unfoldable pub mds_column : ℕ → ℕ → ℕ
mds_column i y = from_bytes (map (λ row. product 8 0x169 (slice_index row i) y) mds)

-- a byte through four permutations, p3 first, with a byte of the list l after each
abbrev pub chained : (ℕ → ℕ) → (ℕ → ℕ) → (ℕ → ℕ) → (ℕ → ℕ) → List ℕ → ℕ → ℕ
chained p3 p2 p1 p0 l x =
    let y3 : ℕ = bit_xor (p3 x) (slice_index l 3) in
    let y2 : ℕ = bit_xor (p2 y3) (slice_index l 2) in
    let y1 : ℕ = bit_xor (p1 y2) (slice_index l 1) in
    bit_xor (p0 y1) (slice_index l 0)

-- byte i of each of the four words l
unfoldable pub across : ℕ → List ℕ → List ℕ
across i l =
    slice_index (to_bytes 4 (slice_index l 0)) i ∷ slice_index (to_bytes 4 (slice_index l 1)) i
    ∷ slice_index (to_bytes 4 (slice_index l 2)) i ∷ slice_index (to_bytes 4 (slice_index l 3)) i
    ∷ []

-- what byte 0, 1, 2 or 3 of a word adds to h under the words l, if it is x
abbrev pub added_0 : List ℕ → ℕ → ℕ
added_0 l x = mds_column 0 (q1 (chained q1 q1 q0 q0 (across 0 l) x))

abbrev pub added_1 : List ℕ → ℕ → ℕ
added_1 l x = mds_column 1 (q0 (chained q0 q1 q1 q0 (across 1 l) x))

abbrev pub added_2 : List ℕ → ℕ → ℕ
added_2 l x = mds_column 2 (q1 (chained q0 q0 q0 q1 (across 2 l) x))

abbrev pub added_3 : List ℕ → ℕ → ℕ
added_3 l x = mds_column 3 (q0 (chained q1 q0 q1 q1 (across 3 l) x))

-- the words under which h is g: S_3 to S_0
abbrev pub reversed : List ℕ → List ℕ
reversed s = slice_index s 3 ∷ slice_index s 2 ∷ slice_index s 1 ∷ slice_index s 0 ∷ []

-- a table has 256 entries, and the first n are what f makes of their places
pub record HasEntries (n : ℕ) (f : ℕ → ℕ) (table : List ℕ) : Type 0 where
  pub long : length table ≡ 256
  pub at : (b : ℕ) → b < n → slice_index table b ≡ f b

-- the four tables of g under the words s
pub record AreTables (s t0 t1 t2 t3 : List ℕ) : Type 0 where
  pub of_byte_0 : HasEntries 256 (added_0 (reversed s)) t0
  pub of_byte_1 : HasEntries 256 (added_1 (reversed s)) t1
  pub of_byte_2 : HasEntries 256 (added_2 (reversed s)) t2
  pub of_byte_3 : HasEntries 256 (added_3 (reversed s)) t3
