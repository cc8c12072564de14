-- A list in the chunks that the code takes: they are its pieces, and lanes that are XORed are lists that are.
use Rattle.std.proofs.Common.{◌≡◌, ◌<◌, ◌≤◌, ◌+◌, ◌*◌, ◌-◌, List, [], ◌∷◌, ℕ, zero, suc, take, drop, get_or, refl, sym, ap, ap₂, ◌∙◌, arith, bit_xor}
use Rattle.std.proofs.lemmas.List.{drop-drop, drop-take, take-take}
use Rattle.std.specs.Simd.{first_chunks}
use Rattle.std.specs.Simd.Lanes.{zip2}
use Rattle.vc_base.specs.Bytes.{xor_bytes, piece}

-- the i-th of the first k chunks of n elements
pub chunk_is_piece : (n k : ℕ) (xs : List ℕ) (i : ℕ) → i < k → get_or (first_chunks n k xs) i [] ≡ piece n i xs
chunk_is_piece n zero xs i below = absurd (omega arith)
chunk_is_piece n (suc k) xs zero below =
    let none : 0 ≡ n * 0 = omega arith in
    ap (λ (j : ℕ). take n (drop j xs)) none
chunk_is_piece n (suc k) xs (suc i) below =
    let after : n + n * i ≡ n * suc i = omega arith in
    chunk_is_piece n k (drop n xs) i (omega arith)
    ∙ ap (take n) (drop-drop (n * i) n xs ∙ ap (λ (j : ℕ). drop j xs) after)

pub xor_by_lanes : (f : ℕ → ℕ → ℕ) → ((a b : ℕ) → f a b ≡ bit_xor a b) → (xs ys : List ℕ) → zip2 f xs ys ≡ xor_bytes xs ys
unfolding xor_bytes
xor_by_lanes f same [] ys = refl
xor_by_lanes f same (x ∷ xs) [] = refl
xor_by_lanes f same (x ∷ xs) (y ∷ ys) = ap₂ ◌∷◌ (same x y) (xor_by_lanes f same xs ys)

-- a piece lies within the first m elements
pub piece-take : (n j m : ℕ) (xs : List ℕ) → n * j + n ≤ m → piece n j (take m xs) ≡ piece n j xs
piece-take n j m xs inside =
    let whole : n * j + (m - n * j) ≡ m = omega arith in
    ap (take n) (ap (λ (k : ℕ). drop (n * j) (take k xs)) (sym whole) ∙ drop-take (n * j) (m - n * j) xs)
    ∙ take-take n (m - n * j) (drop (n * j) xs) (omega arith)
