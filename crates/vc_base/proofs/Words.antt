-- Integers of 32 and 64 bits, and their bytes.
--
-- What Rust's `from_le_bytes` and its three companions give, in this crate's definitions. A list of 4 or 8
-- elements is written out, and then both sides compute to one sum.
use Rattle.std.proofs.Common.{◌≡◌, ℕ, zero, suc, ◌/◌, ◌%◌, ◌^◌, List, [], ◌∷◌, length, reverse, refl, sym, ap, ap₂, ◌∙◌, arith, w32, w64}
use native.Mathlib.Nat.{div-div-eq-div-mul, pow-suc, div-one}
use Rattle.std.specs.Int.{to_le_bytes, from_le_bytes, to_be_bytes, from_be_bytes, bytes_low_first, byte_at}
use Rattle.vc_base.specs.Bytes.{from_bytes, to_bytes}

-- ---- lists of 4 and 8 elements, written out

pub with_four : {X : Type 0} (P : List X → Type 0) → ((a b c d : X) → P (a ∷ b ∷ c ∷ d ∷ []))
    → (xs : List X) → length xs ≡ 4 → P xs
with_four P each [] long = absurd (omega arith)
with_four P each (a ∷ []) long = absurd (omega arith)
with_four P each (a ∷ b ∷ []) long = absurd (omega arith)
with_four P each (a ∷ b ∷ c ∷ []) long = absurd (omega arith)
with_four P each (a ∷ b ∷ c ∷ d ∷ []) long = each a b c d
with_four P each (a ∷ b ∷ c ∷ d ∷ e ∷ xs) long = absurd (omega arith)

pub with_eight : {X : Type 0} (P : List X → Type 0)
    → ((a b c d e f g h : X) → P (a ∷ b ∷ c ∷ d ∷ e ∷ f ∷ g ∷ h ∷ []))
    → (xs : List X) → length xs ≡ 8 → P xs
with_eight P each [] long = absurd (omega arith)
with_eight P each (a ∷ []) long = absurd (omega arith)
with_eight P each (a ∷ b ∷ []) long = absurd (omega arith)
with_eight P each (a ∷ b ∷ c ∷ []) long = absurd (omega arith)
with_eight P each (a ∷ b ∷ c ∷ d ∷ xs) long =
    with_four (λ ys. P (a ∷ b ∷ c ∷ d ∷ ys)) (λ e f g h. each a b c d e f g h) xs (omega arith)

-- ---- the lowest byte first

pub from_le_bytes_4 : (bs : List ℕ) → length bs ≡ 4 → from_le_bytes w32 bs ≡ from_bytes bs
unfolding from_bytes
from_le_bytes_4 = with_four (λ bs. from_le_bytes w32 bs ≡ from_bytes bs) (λ a b c d. omega arith)

pub from_le_bytes_8 : (bs : List ℕ) → length bs ≡ 8 → from_le_bytes w64 bs ≡ from_bytes bs
unfolding from_bytes
from_le_bytes_8 = with_eight (λ bs. from_le_bytes w64 bs ≡ from_bytes bs)
    (λ a b c d e f g h. omega arith)

low_byte : (i x : ℕ) → byte_at i x ≡ x / 256 ^ i % 256
low_byte zero x = ap (λ (y : ℕ). y % 256) (sym (div-one x))
low_byte (suc i) x = refl

low_first : (i k x : ℕ) → bytes_low_first i k x ≡ to_bytes k (x / 256 ^ i)
unfolding to_bytes
low_first i zero x = refl
low_first i (suc k) x =
    let next : x / 256 ^ suc i ≡ x / 256 ^ i / 256
    = ap (λ (y : ℕ). x / y) (pow-suc 256 i) ∙ sym (div-div-eq-div-mul x (256 ^ i) 256) in
    ap₂ ◌∷◌ (low_byte i x) (low_first (suc i) k x ∙ ap (to_bytes k) next)

pub to_le_bytes_4 : (x : ℕ) → to_le_bytes w32 x ≡ to_bytes 4 x
to_le_bytes_4 x = low_first 0 4 x ∙ ap (to_bytes 4) (div-one x)

pub to_le_bytes_8 : (x : ℕ) → to_le_bytes w64 x ≡ to_bytes 8 x
to_le_bytes_8 x = low_first 0 8 x ∙ ap (to_bytes 8) (div-one x)

-- ---- the highest byte first

pub from_be_bytes_4 : (bs : List ℕ) → length bs ≡ 4 → from_be_bytes w32 bs ≡ from_bytes (reverse bs)
unfolding from_bytes
from_be_bytes_4 = with_four (λ bs. from_be_bytes w32 bs ≡ from_bytes (reverse bs))
    (λ a b c d. omega arith)

pub from_be_bytes_8 : (bs : List ℕ) → length bs ≡ 8 → from_be_bytes w64 bs ≡ from_bytes (reverse bs)
unfolding from_bytes
from_be_bytes_8 = with_eight (λ bs. from_be_bytes w64 bs ≡ from_bytes (reverse bs))
    (λ a b c d e f g h. omega arith)

pub to_be_bytes_4 : (x : ℕ) → to_be_bytes w32 x ≡ reverse (to_bytes 4 x)
to_be_bytes_4 x = ap reverse (to_le_bytes_4 x)

pub to_be_bytes_8 : (x : ℕ) → to_be_bytes w64 x ≡ reverse (to_bytes 8 x)
to_be_bytes_8 x = ap reverse (to_le_bytes_8 x)
