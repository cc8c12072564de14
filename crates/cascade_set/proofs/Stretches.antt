-- A stretch under its masks, and the numbers of units.
use Rattle.std.proofs.Common.{◌≡◌, ◌≤◌, ◌<◌, ◌+◌, ◌*◌, ℕ, zero, suc, List, [], ◌∷◌, length, take, refl, sym, ap, ◌∙◌, arith, bit_xor}
use Rattle.vc_base.specs.Bytes.{xor_bytes, to_bytes, piece, joined}
use Rattle.vc_base.proofs.Pieces.{joined-piece, joined_same}

-- masks past the end of a list don't count
pub xor_bytes-take : (n : ℕ) (xs ys : List ℕ) → length xs ≤ n → xor_bytes xs (take n ys) ≡ xor_bytes xs ys
unfolding xor_bytes
xor_bytes-take n [] ys within = refl
xor_bytes-take zero (x ∷ xs) ys within = absurd (omega arith)
xor_bytes-take (suc n) (x ∷ xs) [] within = refl
xor_bytes-take (suc n) (x ∷ xs) (y ∷ ys) within =
    ap (λ (zs : List ℕ). bit_xor x y ∷ zs) (xor_bytes-take n xs ys (omega arith))

-- blocks that are the numbers of units, as one list
pub numbers_joined : (unit count : ℕ) (blocks : List ℕ)
    → ((j : ℕ) → j < count → piece 16 j blocks ≡ to_bytes 16 (unit + j))
    → take (16 * count) blocks ≡ joined (λ j. to_bytes 16 (unit + j)) count
numbers_joined unit count blocks each =
    sym (joined-piece 16 count blocks)
    ∙ joined_same (λ j. piece 16 j blocks) (λ j. to_bytes 16 (unit + j)) count each
