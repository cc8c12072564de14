-- Eight blocks as bit planes.
--
-- A plane is a list of 16 bytes, its lanes. Lane 4r + c belongs to row r and column c of the eight states, and bit k of a
-- lane to block k. In plane i it is bit i of that byte.
--
-- bit_of p l k i          bit i of the byte that lane l has of block k, in the planes p
-- block_of p k            block k of the planes p
-- InEachBlock f x y       each block of y is what f makes of that block of x
-- Added x y z             each block of z is the XOR of those of x and y
-- rows g                  the eight rows of 16 bytes of a group g of 128 bytes
-- by_rows s               the state s with its bytes row by row, as lanes are
-- Transposed x y          y are the planes of eight blocks whose bytes x has row by row
-- AreKeyPlanes n w ps     in ps, each of the first n round keys of the schedule w is each of eight blocks in planes
use Rattle.std.specs.Prelude.{◌≡◌, ◌<◌, ◌+◌, ◌-◌, ◌*◌, ◌/◌, ◌%◌, ◌==◌, if◌then◌else◌, ℕ, List, [], ◌∷◌, slice_index, slice_index_or}
use Rattle.std.specs.Int.{bit_at}
use Rattle.vc_base.specs.Bits.{of_bits}
use Rattle.vc_base.specs.Bytes.{IsBytes, xor_bytes, piece}
use Rattle.aes_core.specs.Aes.{mul, at, state}

abbrev pub plane : List (List ℕ) → ℕ → List ℕ
plane p i = slice_index_or p i []

abbrev pub bit_of : List (List ℕ) → ℕ → ℕ → ℕ → ℕ
bit_of p l k i = bit_at (slice_index (plane p i) l) k

abbrev pub byte_of : List (List ℕ) → ℕ → ℕ → ℕ
byte_of p l k = of_bits (bit_of p l k) 8

abbrev pub block_of : List (List ℕ) → ℕ → List ℕ
block_of p k = state (λ r c. byte_of p (4 * r + c) k)

pub record ArePlanes (p : List (List ℕ)) : Type 0 where
  pub each : (i : ℕ) → i < 8 → IsBytes 16 (plane p i)

pub record InEachBlock (f : List ℕ → List ℕ) (x y : List (List ℕ)) : Type 0 where
  pub planes : ArePlanes y
  pub each : (k : ℕ) → k < 8 → block_of y k ≡ f (block_of x k)

abbrev pub rows : List ℕ → List (List ℕ)
rows g =
    piece 16 0 g ∷ piece 16 1 g ∷ piece 16 2 g ∷ piece 16 3 g
    ∷ piece 16 4 g ∷ piece 16 5 g ∷ piece 16 6 g ∷ piece 16 7 g ∷ []

pub record AreKeyPlanes (n : ℕ) (w ps : List ℕ) : Type 0 where
  pub planes : (r : ℕ) → r < n → ArePlanes (rows (piece 128 r ps))
  pub each : (r k : ℕ) → r < n → k < 8 → block_of (rows (piece 128 r ps)) k ≡ piece 16 r w

-- the state with rows and columns exchanged, so that its bytes are in the order of the lanes: it is its own inverse
unfoldable pub by_rows : List ℕ → List ℕ
by_rows s = state (λ r c. at s c r)

-- y are the planes of eight blocks of which x has the bytes row by row, and the other way round
pub record Transposed (x y : List (List ℕ)) : Type 0 where
  pub planes : ArePlanes y
  pub blocks : (k : ℕ) → k < 8 → block_of y k ≡ by_rows (plane x k)
  pub rows : (k : ℕ) → k < 8 → plane y k ≡ by_rows (block_of x k)

-- each block of z is the XOR of those of x and y
pub record Added (x y z : List (List ℕ)) : Type 0 where
  pub planes : ArePlanes z
  pub each : (k : ℕ) → k < 8 → block_of z k ≡ xor_bytes (block_of x k) (block_of y k)

-- ---- the steps that the code takes

-- the mask has the places that have no part `by`, a power of two
abbrev pub IsExchange : ℕ → ℕ → Type 0
IsExchange by mask = (k : ℕ) → k < 8 → bit_at mask k ≡ 1 - k / by % 2

-- x at the places without that part, and else y
abbrev pub chosen : ℕ → ℕ → ℕ → ℕ → ℕ
chosen by k x y = if k / by % 2 == 0 then x else y

-- In each lane the bits of a at the places with that part have changed places with those of b at the places without:
-- p and q are what a and b became.
pub record Exchanged (by : ℕ) (a b p q : List ℕ) : Type 0 where
  pub left : IsBytes 16 p
  pub right : IsBytes 16 q
  pub lower : (l k : ℕ) → l < 16 → k < 8
      → bit_at (slice_index p l) k ≡ chosen by k (bit_at (slice_index a l) k) (bit_at (slice_index b l) (k - by))
  pub upper : (l k : ℕ) → l < 16 → k < 8
      → bit_at (slice_index q l) k ≡ chosen by k (bit_at (slice_index a l) (k + by)) (bit_at (slice_index b l) k)

-- Moves of lanes: for ShiftRows, for its inverse, and for the byte below each byte in its column and the byte two below.
abbrev pub lane : List ℕ → ℕ → ℕ → ℕ
lane p r c = slice_index p (4 * r + c)

abbrev pub lanes : (ℕ → ℕ → ℕ) → List ℕ
lanes f = state (λ r c. f c r)

unfoldable pub lanes_left : List ℕ → List ℕ
lanes_left p = lanes (λ r c. lane p r ((c + r) % 4))

unfoldable pub lanes_right : List ℕ → List ℕ
lanes_right p = lanes (λ r c. lane p r ((c + 4 - r) % 4))

unfoldable pub lanes_up : List ℕ → List ℕ
lanes_up p = lanes (λ r c. lane p ((r + 1) % 4) c)

unfoldable pub lanes_up_two : List ℕ → List ℕ
lanes_up_two p = lanes (λ r c. lane p ((r + 2) % 4) c)

-- the byte below each byte in its column, and the byte two below
unfoldable pub row_below : List ℕ → List ℕ
row_below s = state (λ r c. at s ((r + 1) % 4) c)

unfoldable pub two_rows_below : List ℕ → List ℕ
two_rows_below s = state (λ r c. at s ((r + 2) % 4) c)

-- each byte times b
unfoldable pub multiplied : ℕ → List ℕ → List ℕ
multiplied b s = state (λ r c. mul b (at s r c))
