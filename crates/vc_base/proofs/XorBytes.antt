-- The XOR of two lists of bytes: its length, its elements, its parts, and a list that was changed byte by byte.
--
-- All is by induction along both lists. The second list may be longer; what it has more doesn't count.
use Rattle.std.proofs.Common.{◌≡◌, ℕ, zero, suc, ◌*◌, ◌<◌, ◌≤◌, List, [], ◌∷◌, length, take, drop, get_or, replicate, refl, sym, ap, ap₂, ◌∙◌, arith}
use Rattle.std.specs.Int.Bits.{bit_xor, xor_zero_l}
use Rattle.std.proofs.lemmas.Grind.{same_number_lists}
use Rattle.std.proofs.lemmas.List.{get_or-replicate, length-replicate, take-replicate}
use Rattle.vc_base.specs.Bytes.{xor_bytes, piece}

pub length-xor_bytes : (xs ys : List ℕ) → length xs ≤ length ys → length (xor_bytes xs ys) ≡ length xs
unfolding xor_bytes
length-xor_bytes [] ys h = refl
length-xor_bytes (x ∷ xs) [] h = absurd (omega arith)
length-xor_bytes (x ∷ xs) (y ∷ ys) h = ap suc (length-xor_bytes xs ys (omega arith))

pub xor_bytes-nil : (xs : List ℕ) → xor_bytes xs [] ≡ []
unfolding xor_bytes
xor_bytes-nil [] = refl
xor_bytes-nil (x ∷ xs) = refl

pub take-xor_bytes : (n : ℕ) (xs ys : List ℕ) → take n (xor_bytes xs ys) ≡ xor_bytes (take n xs) (take n ys)
unfolding xor_bytes
take-xor_bytes zero xs ys = refl
take-xor_bytes (suc n) [] ys = refl
take-xor_bytes (suc n) (x ∷ xs) [] = refl
take-xor_bytes (suc n) (x ∷ xs) (y ∷ ys) = ap (λ zs. bit_xor x y ∷ zs) (take-xor_bytes n xs ys)

pub drop-xor_bytes : (n : ℕ) (xs ys : List ℕ) → drop n (xor_bytes xs ys) ≡ xor_bytes (drop n xs) (drop n ys)
unfolding xor_bytes
drop-xor_bytes zero xs ys = refl
drop-xor_bytes (suc n) [] ys = refl
drop-xor_bytes (suc n) (x ∷ xs) [] = sym (xor_bytes-nil (drop n xs))
drop-xor_bytes (suc n) (x ∷ xs) (y ∷ ys) = drop-xor_bytes n xs ys

pub piece-xor_bytes : (n j : ℕ) (xs ys : List ℕ)
    → piece n j (xor_bytes xs ys) ≡ xor_bytes (piece n j xs) (piece n j ys)
piece-xor_bytes n j xs ys = ap (take n) (drop-xor_bytes (n * j) xs ys) ∙ take-xor_bytes n (drop (n * j) xs) (drop (n * j) ys)

pub get_or-xor_bytes : (xs ys : List ℕ) (i : ℕ) → length xs ≤ length ys → i < length xs
    → get_or (xor_bytes xs ys) i 0 ≡ bit_xor (get_or xs i 0) (get_or ys i 0)
unfolding xor_bytes
get_or-xor_bytes [] ys i h k = absurd (omega arith)
get_or-xor_bytes (x ∷ xs) [] i h k = absurd (omega arith)
get_or-xor_bytes (x ∷ xs) (y ∷ ys) zero h k = refl
get_or-xor_bytes (x ∷ xs) (y ∷ ys) (suc i) h k = get_or-xor_bytes xs ys i (omega arith) (omega arith)

-- a list that was changed byte by byte
pub changed_by_xor : (now old mask : List ℕ) → length now ≡ length old → length old ≤ length mask
    → ((k : ℕ) → k < length old → get_or now k 0 ≡ bit_xor (get_or old k 0) (get_or mask k 0))
    → now ≡ xor_bytes old mask
changed_by_xor now old mask long within each =
    same_number_lists now (xor_bytes old mask) (long ∙ sym (length-xor_bytes old mask within))
    (λ k h. let inside : k < length old = omega arith in each k inside ∙ sym (get_or-xor_bytes old mask k within inside))

pub xor_bytes-zeros : (n : ℕ) (xs : List ℕ) → length xs ≡ n → xor_bytes (replicate n 0) xs ≡ xs
unfolding xor_bytes
xor_bytes-zeros zero [] e = refl
xor_bytes-zeros zero (x ∷ xs) e = absurd (omega (arith, e))
xor_bytes-zeros (suc n) [] e = absurd (omega (arith, e))
xor_bytes-zeros (suc n) (x ∷ xs) e = ap₂ ◌∷◌ (xor_zero_l x) (xor_bytes-zeros n xs (omega (arith, e)))
