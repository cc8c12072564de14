-- Lists of bytes, and the numbers that they spell.
--
-- AreBytes xs      each element of xs is below 256: what `IsBytes` says beside the count
--
-- All by recursion over the lists: a list of n bytes and its number, below 256^n, are two spellings of one
-- thing, and XOR acts on both alike since no byte reaches the next one's bits.
use Rattle.std.proofs.Common.{◌≡◌, ◌<◌, ◌≤◌, ℕ, zero, suc, ◌+◌, ◌-◌, ◌*◌, ◌/◌, ◌%◌, ◌^◌, bit_xor, List, [], ◌∷◌, ◌++◌, length, take, drop, slice_index, get_or, refl, sym, ap, ap₂, ◌∙◌, subst, arith, pow-suc, length-append, length-drop, length-take-le}
use Rattle.std.proofs.lemmas.Nat.{xor_shr, xor_mod}
use lib.Bits.{xor_comm, xor_lt}
use Rattle.vc_base.specs.Bytes.{IsBytes, xor_bytes, from_bytes, to_bytes, piece, joined, in_pieces}
use Rattle.vc_base.proofs.Xor.{xor_cancel, xor_parts_byte}
use Rattle.vc_base.proofs.Pieces.{length-joined, length-piece, piece_of_whole, in_pieces-joined}

-- ---- bytes

pub record AreBytes (xs : List ℕ) : Type 0 where
  pub each : (i : ℕ) → slice_index xs i < 256

pub are_bytes : (n : ℕ) (xs : List ℕ) → IsBytes n xs → AreBytes xs
are_bytes n xs bytes = record { each = bytes.each }

pub is_bytes : (n : ℕ) (xs : List ℕ) → length xs ≡ n → AreBytes xs → IsBytes n xs
is_bytes n xs long bytes = record { count = long; each = bytes.each }

pub first_byte : (x : ℕ) (xs : List ℕ) → AreBytes (x ∷ xs) → x < 256
first_byte x xs bytes = bytes.each 0

pub rest_bytes : (x : ℕ) (xs : List ℕ) → AreBytes (x ∷ xs) → AreBytes xs
rest_bytes x xs bytes = record { each = λ i. bytes.each (suc i) }

pub AreBytes-nil : AreBytes []
AreBytes-nil = record { each = λ i. omega arith }

pub AreBytes-cons : (x : ℕ) (xs : List ℕ) → x < 256 → AreBytes xs → AreBytes (x ∷ xs)
AreBytes-cons x xs below bytes = record { each = at }
  where
    at : (i : ℕ) → get_or (x ∷ xs) i 0 < 256
    at zero = below
    at (suc i) = bytes.each i

pub AreBytes-take : (k : ℕ) (xs : List ℕ) → AreBytes xs → AreBytes (take k xs)
AreBytes-take zero xs bytes = AreBytes-nil
AreBytes-take (suc k) [] bytes = AreBytes-nil
AreBytes-take (suc k) (x ∷ xs) bytes =
    AreBytes-cons x (take k xs) (first_byte x xs bytes) (AreBytes-take k xs (rest_bytes x xs bytes))

pub AreBytes-drop : (k : ℕ) (xs : List ℕ) → AreBytes xs → AreBytes (drop k xs)
AreBytes-drop zero xs bytes = bytes
AreBytes-drop (suc k) [] bytes = AreBytes-nil
AreBytes-drop (suc k) (x ∷ xs) bytes = AreBytes-drop k xs (rest_bytes x xs bytes)

pub AreBytes-append : (xs ys : List ℕ) → AreBytes xs → AreBytes ys → AreBytes (xs ++ ys)
AreBytes-append [] ys bytes_x bytes_y = bytes_y
AreBytes-append (x ∷ xs) ys bytes_x bytes_y =
    AreBytes-cons x (xs ++ ys) (first_byte x xs bytes_x)
    (AreBytes-append xs ys (rest_bytes x xs bytes_x) bytes_y)

pub AreBytes-xor : (xs ys : List ℕ) → AreBytes xs → AreBytes ys → AreBytes (xor_bytes xs ys)
unfolding xor_bytes
AreBytes-xor [] ys bytes_x bytes_y = AreBytes-nil
AreBytes-xor (x ∷ xs) [] bytes_x bytes_y = AreBytes-nil
AreBytes-xor (x ∷ xs) (y ∷ ys) bytes_x bytes_y =
    AreBytes-cons (bit_xor x y) (xor_bytes xs ys)
    (xor_lt 8 x y (first_byte x xs bytes_x) (first_byte y ys bytes_y))
    (AreBytes-xor xs ys (rest_bytes x xs bytes_x) (rest_bytes y ys bytes_y))

pub AreBytes-to_bytes : (n x : ℕ) → AreBytes (to_bytes n x)
unfolding to_bytes
AreBytes-to_bytes zero x = AreBytes-nil
AreBytes-to_bytes (suc n) x = AreBytes-cons (x % 256) (to_bytes n (x / 256)) (omega arith)
    (AreBytes-to_bytes n (x / 256))

pub AreBytes-joined : (f : ℕ → List ℕ) (k : ℕ) → ((j : ℕ) → j < k → AreBytes (f j))
    → AreBytes (joined f k)
unfolding joined
AreBytes-joined f zero each = AreBytes-nil
AreBytes-joined f (suc k) each =
    AreBytes-append (joined f k) (f k) (AreBytes-joined f k (λ j inside. each j (omega arith)))
    (each k (omega arith))

-- ---- lengths

pub length-xor_bytes : (n : ℕ) (xs ys : List ℕ) → length xs ≡ n → length ys ≡ n
    → length (xor_bytes xs ys) ≡ n
unfolding xor_bytes
length-xor_bytes n [] ys long_x long_y = long_x
length-xor_bytes n (x ∷ xs) [] long_x long_y = long_y
length-xor_bytes zero (x ∷ xs) (y ∷ ys) long_x long_y = absurd (omega arith)
length-xor_bytes (suc n) (x ∷ xs) (y ∷ ys) long_x long_y =
    ap suc (length-xor_bytes n xs ys (omega arith) (omega arith))

pub length-to_bytes : (n x : ℕ) → length (to_bytes n x) ≡ n
unfolding to_bytes
length-to_bytes zero x = refl
length-to_bytes (suc n) x = ap suc (length-to_bytes n (x / 256))

-- ---- n bytes

pub IsBytes-nil : IsBytes 0 []
IsBytes-nil = is_bytes 0 [] refl AreBytes-nil

pub IsBytes-take : (n k : ℕ) (xs : List ℕ) → IsBytes n xs → k ≤ n → IsBytes k (take k xs)
IsBytes-take n k xs bytes inside =
    is_bytes k (take k xs) (length-take-le k xs (omega (arith, bytes.count)))
    (AreBytes-take k xs (are_bytes n xs bytes))

pub IsBytes-drop : (n k : ℕ) (xs : List ℕ) → IsBytes n xs → IsBytes (n - k) (drop k xs)
IsBytes-drop n k xs bytes =
    is_bytes (n - k) (drop k xs) (length-drop k xs ∙ ap (λ (x : ℕ). x - k) bytes.count)
    (AreBytes-drop k xs (are_bytes n xs bytes))

pub IsBytes-append : (m n : ℕ) (xs ys : List ℕ) → IsBytes m xs → IsBytes n ys
    → IsBytes (m + n) (xs ++ ys)
IsBytes-append m n xs ys bytes_x bytes_y =
    is_bytes (m + n) (xs ++ ys) (length-append xs ys ∙ ap₂ ◌+◌ bytes_x.count bytes_y.count)
    (AreBytes-append xs ys (are_bytes m xs bytes_x) (are_bytes n ys bytes_y))

pub IsBytes-xor : (n : ℕ) (xs ys : List ℕ) → IsBytes n xs → IsBytes n ys
    → IsBytes n (xor_bytes xs ys)
IsBytes-xor n xs ys bytes_x bytes_y =
    is_bytes n (xor_bytes xs ys) (length-xor_bytes n xs ys bytes_x.count bytes_y.count)
    (AreBytes-xor xs ys (are_bytes n xs bytes_x) (are_bytes n ys bytes_y))

pub IsBytes-to_bytes : (n x : ℕ) → IsBytes n (to_bytes n x)
IsBytes-to_bytes n x = is_bytes n (to_bytes n x) (length-to_bytes n x) (AreBytes-to_bytes n x)

pub IsBytes-piece : (l n j : ℕ) (xs : List ℕ) → IsBytes l xs → n * j + n ≤ l
    → IsBytes n (piece n j xs)
IsBytes-piece l n j xs bytes inside =
    is_bytes n (piece n j xs) (length-piece n j xs (omega (arith, bytes.count)))
    (AreBytes-take n (drop (n * j) xs) (AreBytes-drop (n * j) xs (are_bytes l xs bytes)))

pub IsBytes-joined : (n k : ℕ) (f : ℕ → List ℕ) → ((j : ℕ) → j < k → IsBytes n (f j))
    → IsBytes (n * k) (joined f k)
IsBytes-joined n k f each =
    is_bytes (n * k) (joined f k) (length-joined f n k (λ j inside. (each j inside).count))
    (AreBytes-joined f k (λ j inside. are_bytes n (f j) (each j inside)))

pub IsBytes-in_pieces : (n k : ℕ) (f : ℕ → List ℕ → List ℕ) (xs : List ℕ) → 0 < n
    → IsBytes (n * k) xs
    → ((j : ℕ) (p : List ℕ) → j < k → IsBytes n p → IsBytes n (f j p))
    → IsBytes (n * k) (in_pieces n f xs)
IsBytes-in_pieces n k f xs some bytes each =
    subst (λ (ys : List ℕ). IsBytes (n * k) ys) (sym (in_pieces-joined n k f xs some bytes.count))
    (IsBytes-joined n k (λ j. f j (piece n j xs))
    (λ j inside. each j (piece n j xs) inside
    (IsBytes-piece (n * k) n j xs bytes (piece_of_whole n j k (n * k) refl inside))))

-- ---- XOR of bytes

pub slice_index-xor : (xs ys : List ℕ) (i : ℕ) → length xs ≡ length ys
    → slice_index (xor_bytes xs ys) i ≡ bit_xor (slice_index xs i) (slice_index ys i)
unfolding xor_bytes
slice_index-xor [] [] i long = refl
slice_index-xor [] (y ∷ ys) i long = absurd (omega arith)
slice_index-xor (x ∷ xs) [] i long = absurd (omega arith)
slice_index-xor (x ∷ xs) (y ∷ ys) zero long = refl
slice_index-xor (x ∷ xs) (y ∷ ys) (suc i) long = slice_index-xor xs ys i (omega arith)

pub xor_bytes_cancel : (xs ys : List ℕ) → length xs ≤ length ys
    → xor_bytes (xor_bytes xs ys) ys ≡ xs
unfolding xor_bytes
xor_bytes_cancel [] ys fits = refl
xor_bytes_cancel (x ∷ xs) [] fits = absurd (omega arith)
xor_bytes_cancel (x ∷ xs) (y ∷ ys) fits
    = ap₂ ◌∷◌ (xor_cancel x y) (xor_bytes_cancel xs ys (omega arith))

pub xor_bytes_comm : (xs ys : List ℕ) → xor_bytes xs ys ≡ xor_bytes ys xs
unfolding xor_bytes
xor_bytes_comm [] [] = refl
xor_bytes_comm [] (y ∷ ys) = refl
xor_bytes_comm (x ∷ xs) [] = refl
xor_bytes_comm (x ∷ xs) (y ∷ ys) = ap₂ ◌∷◌ (xor_comm x y) (xor_bytes_comm xs ys)

-- ---- numbers and the bytes that spell them

pub from_bytes_below : (n : ℕ) (xs : List ℕ) → IsBytes n xs → from_bytes xs < 256 ^ n
unfolding from_bytes
from_bytes_below zero [] bytes = omega arith
from_bytes_below zero (x ∷ xs) bytes = absurd (omega (arith, bytes.count))
from_bytes_below (suc n) [] bytes = absurd (omega (arith, bytes.count))
from_bytes_below (suc n) (x ∷ xs) bytes =
    let rest : IsBytes n xs = is_bytes n xs (omega (arith, bytes.count))
    (rest_bytes x xs (are_bytes (suc n) (x ∷ xs) bytes)) in
    omega (arith, bytes.each 0, from_bytes_below n xs rest, pow-suc 256 n)

pub from_bytes-to_bytes : (n x : ℕ) → x < 256 ^ n → from_bytes (to_bytes n x) ≡ x
unfolding from_bytes to_bytes
from_bytes-to_bytes zero x below = omega arith
from_bytes-to_bytes (suc n) x below =
    let power : 256 ^ suc n ≡ 256 ^ n * 256 = pow-suc 256 n in
    let high : x / 256 < 256 ^ n = omega arith in
    omega (arith, from_bytes-to_bytes n (x / 256) high)

pub to_bytes-from_bytes : (n : ℕ) (xs : List ℕ) → IsBytes n xs → to_bytes n (from_bytes xs) ≡ xs
unfolding from_bytes to_bytes
to_bytes-from_bytes zero [] bytes = refl
to_bytes-from_bytes zero (x ∷ xs) bytes = absurd (omega (arith, bytes.count))
to_bytes-from_bytes (suc n) [] bytes = absurd (omega (arith, bytes.count))
to_bytes-from_bytes (suc n) (x ∷ xs) bytes =
    let rest : IsBytes n xs = is_bytes n xs (omega (arith, bytes.count))
    (rest_bytes x xs (are_bytes (suc n) (x ∷ xs) bytes)) in
    let first : (x + 256 * from_bytes xs) % 256 ≡ x = omega (arith, bytes.each 0) in
    let high : (x + 256 * from_bytes xs) / 256 ≡ from_bytes xs = omega (arith, bytes.each 0) in
    ap₂ ◌∷◌ first (ap (to_bytes n) high ∙ to_bytes-from_bytes n xs rest)

pub from_bytes-append : (xs ys : List ℕ)
    → from_bytes (xs ++ ys) ≡ from_bytes xs + 256 ^ length xs * from_bytes ys
unfolding from_bytes
from_bytes-append [] ys = omega arith
from_bytes-append (x ∷ xs) ys =
    omega (arith, from_bytes-append xs ys, ap (λ (p : ℕ). p * from_bytes ys) (pow-suc 256 (length xs)))

from_same_count-xor : (xs ys : List ℕ) → length xs ≡ length ys → AreBytes xs → AreBytes ys
    → from_bytes (xor_bytes xs ys) ≡ bit_xor (from_bytes xs) (from_bytes ys)
unfolding from_bytes xor_bytes
from_same_count-xor [] [] long bytes_x bytes_y = refl
from_same_count-xor [] (y ∷ ys) long bytes_x bytes_y = absurd (omega arith)
from_same_count-xor (x ∷ xs) [] long bytes_x bytes_y = absurd (omega arith)
from_same_count-xor (x ∷ xs) (y ∷ ys) long bytes_x bytes_y =
    ap (λ (r : ℕ). bit_xor x y + 256 * r)
    (from_same_count-xor xs ys (omega arith) (rest_bytes x xs bytes_x) (rest_bytes y ys bytes_y))
    ∙ sym (xor_parts_byte x y (from_bytes xs) (from_bytes ys) (first_byte x xs bytes_x)
    (first_byte y ys bytes_y))

pub from_bytes-xor : (n : ℕ) (xs ys : List ℕ) → IsBytes n xs → IsBytes n ys
    → from_bytes (xor_bytes xs ys) ≡ bit_xor (from_bytes xs) (from_bytes ys)
from_bytes-xor n xs ys bytes_x bytes_y =
    from_same_count-xor xs ys (bytes_x.count ∙ sym bytes_y.count) (are_bytes n xs bytes_x)
    (are_bytes n ys bytes_y)

pub to_bytes-xor : (n x y : ℕ) → to_bytes n (bit_xor x y) ≡ xor_bytes (to_bytes n x) (to_bytes n y)
unfolding to_bytes xor_bytes
to_bytes-xor zero x y = refl
to_bytes-xor (suc n) x y =
    ap₂ ◌∷◌ (xor_mod x y 8) (ap (to_bytes n) (xor_shr x y 8) ∙ to_bytes-xor n (x / 256) (y / 256))
