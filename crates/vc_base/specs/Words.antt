-- Words of 32 bits: numbers below 2^32, which four bytes spell, the lowest byte first. A block has 16 bytes.
--
-- AreWords n xs     xs are n words
-- word_of bs j      word j of a list of bytes
-- words_of b        the four words of a block
-- block_of s        the block of four words
use Rattle.std.specs.Prelude.{◌≡◌, ◌<◌, ◌^◌, ℕ, List, [], ◌∷◌, ◌++◌, length, slice_index}
use Rattle.vc_base.specs.Bytes.{from_bytes, to_bytes, piece}

-- xs are n words
pub record AreWords (n : ℕ) (xs : List ℕ) : Type 0 where
  pub count : length xs ≡ n
  pub each : (i : ℕ) → slice_index xs i < 2 ^ 32

abbrev pub word_of : List ℕ → ℕ → ℕ
word_of bs j = from_bytes (piece 4 j bs)

unfoldable pub words_of : List ℕ → List ℕ
words_of b = word_of b 0 ∷ word_of b 1 ∷ word_of b 2 ∷ word_of b 3 ∷ []

unfoldable pub block_of : List ℕ → List ℕ
block_of s =
    to_bytes 4 (slice_index s 0) ++ to_bytes 4 (slice_index s 1)
    ++ to_bytes 4 (slice_index s 2) ++ to_bytes 4 (slice_index s 3)
