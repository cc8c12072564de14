-- Lists of bytes. A byte is a number below 256.
--
-- IsBytes n xs       xs are n bytes
-- xor_bytes xs ys    their XOR, byte by byte
-- from_bytes xs      the number that they spell, the lowest byte first
-- to_bytes n x       the n lowest bytes of x, the lowest first
-- piece n j xs       the j-th piece of n elements, from 0
-- joined f k         f 0, f 1, up to f (k - 1), one after the other
-- in_pieces n f xs   xs with each piece of n elements replaced: piece j by what f j makes of it
use Rattle.std.specs.Prelude.{◌≡◌, ◌<◌, ℕ, zero, suc, ◌+◌, ◌*◌, ◌/◌, ◌%◌, List, [], ◌∷◌, ◌++◌, length, take, drop, slice_index, bit_xor}

-- xs are n bytes
pub record IsBytes (n : ℕ) (xs : List ℕ) : Type 0 where
  pub count : length xs ≡ n
  pub each : (i : ℕ) → slice_index xs i < 256

unfoldable pub xor_bytes : List ℕ → List ℕ → List ℕ
xor_bytes [] ys = []
xor_bytes (x ∷ xs) [] = []
xor_bytes (x ∷ xs) (y ∷ ys) = bit_xor x y ∷ xor_bytes xs ys

unfoldable pub from_bytes : List ℕ → ℕ
from_bytes [] = 0
from_bytes (x ∷ xs) = x + 256 * from_bytes xs

unfoldable pub to_bytes : ℕ → ℕ → List ℕ
to_bytes zero x = []
to_bytes (suc n) x = x % 256 ∷ to_bytes n (x / 256)

abbrev pub piece : {X : Type 0} → ℕ → ℕ → List X → List X
piece n j xs = take n (drop (n * j) xs)

unfoldable pub joined : {X : Type 0} → (ℕ → List X) → ℕ → List X
joined f zero = []
joined f (suc k) = joined f k ++ f k

-- The rest after the last whole piece is dropped: callers require a multiple of n.
abbrev pub in_pieces : {X : Type 0} → ℕ → (ℕ → List X → List X) → List X → List X
in_pieces n f xs = joined (λ j. f j (piece n j xs)) (length xs / n)
