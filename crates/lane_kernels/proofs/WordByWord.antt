-- Blocks and their words, as the code reads and writes them.
use Rattle.std.proofs.Common.{◌≡◌, List, [], ◌∷◌, ◌++◌, ℕ, length, get_or, refl, sym, ap, ap₂, ◌∙◌, w32}
use Rattle.std.specs.Int.{from_le_bytes, to_le_bytes}
use Rattle.vc_base.specs.Bytes.{to_bytes}
use Rattle.vc_base.proofs.Words.{from_le_bytes_4, to_le_bytes_4}
use Rattle.vc_base.specs.Words.{words_of, block_of}
use Rattle.vc_base.proofs.FourWords.{drop-listed, four}

-- a block that is read word by word
pub words_read : (b : List ℕ) (x0 x1 x2 x3 : ℕ) → length b ≡ 16
    → x0 ≡ from_le_bytes w32 (get_or b 0 0 ∷ get_or b 1 0 ∷ get_or b 2 0 ∷ get_or b 3 0 ∷ [])
    → x1 ≡ from_le_bytes w32 (get_or b 4 0 ∷ get_or b 5 0 ∷ get_or b 6 0 ∷ get_or b 7 0 ∷ [])
    → x2 ≡ from_le_bytes w32 (get_or b 8 0 ∷ get_or b 9 0 ∷ get_or b 10 0 ∷ get_or b 11 0 ∷ [])
    → x3 ≡ from_le_bytes w32 (get_or b 12 0 ∷ get_or b 13 0 ∷ get_or b 14 0 ∷ get_or b 15 0 ∷ [])
    → x0 ∷ x1 ∷ x2 ∷ x3 ∷ [] ≡ words_of b
unfolding words_of
words_read b x0 x1 x2 x3 long at_0 at_1 at_2 at_3 =
    ap₂ ◌∷◌ (at_0 ∙ from_le_bytes_4 _ refl)
    (ap₂ ◌∷◌ (at_1 ∙ from_le_bytes_4 _ refl)
    (ap₂ ◌∷◌ (at_2 ∙ from_le_bytes_4 _ refl)
    (ap₂ ◌∷◌ (at_3 ∙ from_le_bytes_4 _ refl) refl)))
    ∙ ap words_of (sym (drop-listed 16 b 0 long))

-- a word's four bytes, one by one
bytes_of : (x : ℕ) (r : List ℕ) → r ≡ to_le_bytes w32 x
    → get_or r 0 0 ∷ get_or r 1 0 ∷ get_or r 2 0 ∷ get_or r 3 0 ∷ [] ≡ to_bytes 4 x
bytes_of x r is = sym (four r (ap length is)) ∙ is ∙ to_le_bytes_4 x

-- and a state that is written so
pub bytes_written : (x r0 r1 r2 r3 : List ℕ)
    → r0 ≡ to_le_bytes w32 (get_or x 0 0) → r1 ≡ to_le_bytes w32 (get_or x 1 0)
    → r2 ≡ to_le_bytes w32 (get_or x 2 0) → r3 ≡ to_le_bytes w32 (get_or x 3 0)
    → get_or r0 0 0 ∷ get_or r0 1 0 ∷ get_or r0 2 0 ∷ get_or r0 3 0
    ∷ get_or r1 0 0 ∷ get_or r1 1 0 ∷ get_or r1 2 0 ∷ get_or r1 3 0
    ∷ get_or r2 0 0 ∷ get_or r2 1 0 ∷ get_or r2 2 0 ∷ get_or r2 3 0
    ∷ get_or r3 0 0 ∷ get_or r3 1 0 ∷ get_or r3 2 0 ∷ get_or r3 3 0 ∷ [] ≡ block_of x
unfolding block_of
bytes_written x r0 r1 r2 r3 at_0 at_1 at_2 at_3 =
    ap₂ ◌++◌ (ap₂ ◌++◌ (ap₂ ◌++◌ (bytes_of _ r0 at_0) (bytes_of _ r1 at_1)) (bytes_of _ r2 at_2))
    (bytes_of _ r3 at_3)
