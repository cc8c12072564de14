-- The transposition of eight rows by exchanges of bits.
--
-- At a level s, one of 1, 2 and 4, rows i and i + s exchange bits: where the place k has the part s, the lower row
-- gets bit k - s of the upper one, and where it has not, the upper row gets bit k + s of the lower one. So i and k
-- exchange their parts s, and after the three levels they have changed places.
use Rattle.std.proofs.Common.{◌≡◌, ◌<◌, ◌≤◌, ◌+◌, ◌-◌, ◌*◌, ◌/◌, ◌%◌, ◌^◌, min, cond, eqb, Bool, true, false, List, ℕ, zero, suc, get_or, slice_index, replicate, refl, sym, ap, ap₂, ◌∙◌, subst, arith, bit_xor, bit_and, inl, inr}
use Rattle.std.specs.Int.{bit_at}
use Rattle.std.specs.Int.Bits.{and_lt}
use Rattle.std.specs.Simd.Lanes.{zip2}
use Rattle.std.proofs.Math.Nat.{div-div-eq-div-mul, add-mul-div_left, div-le_self, div-eq_of_lt}
use Rattle.std.proofs.lemmas.Bool.{cases_lt}
use Rattle.std.proofs.lemmas.Nat.{xor_lt, pow-add, pow_pos, div-add-mod'}
use Rattle.std.proofs.lemmas.Nat.Bits.{bit_at-lt, bit_at-zero, bit_at_and, bit_at_xor, bit_at_cat_low, bit_at_cat_high}
use Rattle.std.proofs.lemmas.Simd.{get_or-replicate}
use Rattle.vc_base.specs.Bits.{of_bits}
use Rattle.vc_base.specs.Bytes.{IsBytes}
use Rattle.vc_base.proofs.Bits.{of_bits-ext, own_bits}
use Rattle.vc_base.proofs.EachNumber.{agree_below, agree_at}
use Rattle.aes_core.specs.Laws.Planes.{plane, bit_of, byte_of, block_of, ArePlanes, IsExchange, chosen, Exchanged, by_rows, Transposed}
use Rattle.aes_core.specs.Laws.States.{state_by_lane, state_by_place, of_state}
use Rattle.aes_core.proofs.OnPlanes.{lane-zip2, zipped_bytes, splat_bytes, below_eight}

-- ---- shifts, bit by bit

bit_at_shr : (a s k : ℕ) → bit_at (a / 2 ^ s) k ≡ bit_at a (k + s)
bit_at_shr a s k =
    let same : s + k ≡ k + s = omega arith in
    let power : 2 ^ s * 2 ^ k ≡ 2 ^ (k + s) = sym (pow-add 2 s k) ∙ ap (λ (n : ℕ). 2 ^ n) same in
    ap (λ (x : ℕ). x % 2) (div-div-eq-div-mul a (2 ^ s) (2 ^ k) ∙ ap (λ (p : ℕ). a / p) power)

-- the lowest eight bits
bit_at_low : (a k : ℕ) → k < 8 → bit_at (a % 2 ^ 8) k ≡ bit_at a k
bit_at_low a k below =
    sym (bit_at_cat_low (a / 2 ^ 8) 8 (a % 2 ^ 8) k below) ∙ ap (λ (x : ℕ). bit_at x k) (div-add-mod' a (2 ^ 8))

nothing_more : (x : ℕ) → x ≡ x + 0
nothing_more x = omega arith

shl_low : (a s k : ℕ) → k < 8 → k < s → bit_at (a * 2 ^ s % 2 ^ 8) k ≡ 0
shl_low a s k below low =
    bit_at_low (a * 2 ^ s) k below ∙ ap (λ (x : ℕ). bit_at x k) (nothing_more (a * 2 ^ s)) ∙ bit_at_cat_low a s 0 k low ∙ bit_at-zero k

shl_high : (a s k : ℕ) → k < 8 → s ≤ k → bit_at (a * 2 ^ s % 2 ^ 8) k ≡ bit_at a (k - s)
shl_high a s k below high =
    bit_at_low (a * 2 ^ s) k below ∙ ap (λ (x : ℕ). bit_at x k) (nothing_more (a * 2 ^ s)) ∙ bit_at_cat_high a s 0 k (pow_pos s) high

-- ---- one lane: a and b are its bytes

abbrev differing : ℕ → ℕ → ℕ → ℕ → ℕ
differing s m a b = bit_and (bit_xor (a / 2 ^ s) b) m

differing_bit : (s m a b k : ℕ) → IsExchange s m → k < 8
    → bit_at (differing s m a b) k ≡ min ((bit_at a (k + s) + bit_at b k) % 2) (1 - k / s % 2)
differing_bit s m a b k mask below =
    bit_at_and (bit_xor (a / 2 ^ s) b) m k
    ∙ ap₂ min (bit_at_xor (a / 2 ^ s) b k ∙ ap (λ (x : ℕ). (x + bit_at b k) % 2) (bit_at_shr a s k)) (mask k below)

-- bits x and y, and whether the place has the part
upper_cases : (x y p : ℕ) → x < 2 → y < 2 → p < 2 → (y + min ((x + y) % 2) (1 - p)) % 2 ≡ cond (eqb p 0) x y
upper_cases zero zero zero a b c = refl
upper_cases zero zero (suc zero) a b c = refl
upper_cases zero (suc zero) zero a b c = refl
upper_cases zero (suc zero) (suc zero) a b c = refl
upper_cases (suc zero) zero zero a b c = refl
upper_cases (suc zero) zero (suc zero) a b c = refl
upper_cases (suc zero) (suc zero) zero a b c = refl
upper_cases (suc zero) (suc zero) (suc zero) a b c = refl
upper_cases (suc (suc x)) y p a b c = absurd (omega arith)
upper_cases x (suc (suc y)) p a b c = absurd (omega arith)
upper_cases x y (suc (suc p)) a b c = absurd (omega arith)

lower_cases : (x y p : ℕ) → x < 2 → y < 2 → p < 2 → (x + cond (eqb p 0) 0 ((x + y) % 2)) % 2 ≡ cond (eqb p 0) x y
lower_cases zero zero zero a b c = refl
lower_cases zero zero (suc zero) a b c = refl
lower_cases zero (suc zero) zero a b c = refl
lower_cases zero (suc zero) (suc zero) a b c = refl
lower_cases (suc zero) zero zero a b c = refl
lower_cases (suc zero) zero (suc zero) a b c = refl
lower_cases (suc zero) (suc zero) zero a b c = refl
lower_cases (suc zero) (suc zero) (suc zero) a b c = refl
lower_cases (suc (suc x)) y p a b c = absurd (omega arith)
lower_cases x (suc (suc y)) p a b c = absurd (omega arith)
lower_cases x y (suc (suc p)) a b c = absurd (omega arith)

-- q is whether the place s lower has the part
masked_cases : (x q : ℕ) → x < 2 → q < 2 → min x (1 - q) ≡ cond (eqb (1 - q) 0) 0 x
masked_cases zero zero a b = refl
masked_cases zero (suc zero) a b = refl
masked_cases (suc zero) zero a b = refl
masked_cases (suc zero) (suc zero) a b = refl
masked_cases (suc (suc x)) q a b = absurd (omega arith)
masked_cases x (suc (suc q)) a b = absurd (omega arith)

upper_bit : (s m a b k : ℕ) → IsExchange s m → k < 8
    → bit_at (bit_xor b (differing s m a b)) k ≡ chosen s k (bit_at a (k + s)) (bit_at b k)
upper_bit s m a b k mask below =
    bit_at_xor b (differing s m a b) k
    ∙ ap (λ (x : ℕ). (bit_at b k + x) % 2) (differing_bit s m a b k mask below)
    ∙ upper_cases (bit_at a (k + s)) (bit_at b k) (k / s % 2) (bit_at-lt a (k + s)) (bit_at-lt b k) (omega arith)

-- the part of a place, and of the place s lower
lower_part : (s k : ℕ) → 0 < s → s ≤ k → k / s % 2 ≡ 1 - (k - s) / s % 2
lower_part s k positive high =
    let whole : k ≡ k - s + s * 1 = omega arith in
    let more : k / s ≡ (k - s) / s + 1 = ap (λ (x : ℕ). x / s) whole ∙ add-mul-div_left (k - s) 1 positive in
    omega (arith, more)

shifted_bit : (s m a b k : ℕ) → 0 < s → IsExchange s m → k < 8
    → bit_at (differing s m a b * 2 ^ s % 2 ^ 8) k ≡ chosen s k 0 ((bit_at a k + bit_at b (k - s)) % 2)
shifted_bit s m a b k positive mask below =
    let last : ℕ = (bit_at a k + bit_at b (k - s)) % 2 in
    elim (cases_lt k s) [
      | inl low ↦
          let none : 0 ≡ k / s = sym (div-eq_of_lt low) in
          subst (λ (q : ℕ). bit_at (differing s m a b * 2 ^ s % 2 ^ 8) k ≡ cond (eqb (q % 2) 0) 0 last) none
          (shl_low (differing s m a b) s k below low)
      | inr high ↦
          let back : k - s + s ≡ k = omega arith in
          subst (λ (q : ℕ). bit_at (differing s m a b * 2 ^ s % 2 ^ 8) k ≡ cond (eqb q 0) 0 last) (sym (lower_part s k positive high))
          (shl_high (differing s m a b) s k below high
          ∙ differing_bit s m a b (k - s) mask (omega arith)
          ∙ ap (λ (j : ℕ). min ((bit_at a j + bit_at b (k - s)) % 2) (1 - (k - s) / s % 2)) back
          ∙ masked_cases last ((k - s) / s % 2) (omega arith) (omega arith))
    ]

lower_bit : (s m a b k : ℕ) → 0 < s → IsExchange s m → k < 8
    → bit_at (bit_xor a (differing s m a b * 2 ^ s % 2 ^ 8)) k ≡ chosen s k (bit_at a k) (bit_at b (k - s))
lower_bit s m a b k positive mask below =
    bit_at_xor a (differing s m a b * 2 ^ s % 2 ^ 8) k
    ∙ ap (λ (x : ℕ). (bit_at a k + x) % 2) (shifted_bit s m a b k positive mask below)
    ∙ lower_cases (bit_at a k) (bit_at b (k - s)) (k / s % 2) (bit_at-lt a k) (bit_at-lt b (k - s)) (omega arith)

-- ---- two rows

abbrev shr : ℕ → ℕ → ℕ
shr a b = a / 2 ^ b

abbrev shl : ℕ → ℕ → ℕ
shl a b = a * 2 ^ b % 2 ^ 8

shr_small : (a b : ℕ) → a < 256 → b < 256 → shr a b < 256
shr_small a b small _ = let less = div-le_self a (2 ^ b) in omega arith

shl_small : (a b : ℕ) → a < 256 → b < 256 → shl a b < 256
shl_small a b _ _ = omega arith

pub exchanged_is : (s m : ℕ) (a b : List ℕ) → 0 < s → s < 8 → m < 256 → IsExchange s m → IsBytes 16 a → IsBytes 16 b
    → Exchanged s a b
    (zip2 bit_xor a (zip2 shl (zip2 bit_and (zip2 bit_xor (zip2 shr a (replicate 16 s)) b) (replicate 16 m)) (replicate 16 s)))
    (zip2 bit_xor b (zip2 bit_and (zip2 bit_xor (zip2 shr a (replicate 16 s)) b) (replicate 16 m)))
exchanged_is s m a b positive small m_small mask left right =
    let by : List ℕ = replicate 16 s in
    let by_bytes : IsBytes 16 by = splat_bytes s (omega arith) in
    let mask_bytes : IsBytes 16 (replicate 16 m) = splat_bytes m m_small in
    let down : List ℕ = zip2 shr a by in
    let down_bytes : IsBytes 16 down = zipped_bytes shr shr_small a by left by_bytes in
    let sum : List ℕ = zip2 bit_xor down b in
    let sum_bytes : IsBytes 16 sum = zipped_bytes bit_xor (xor_lt 8) down b down_bytes right in
    let d : List ℕ = zip2 bit_and sum (replicate 16 m) in
    let d_bytes : IsBytes 16 d = zipped_bytes bit_and (and_lt 8) sum (replicate 16 m) sum_bytes mask_bytes in
    let up : List ℕ = zip2 shl d by in
    let up_bytes : IsBytes 16 up = zipped_bytes shl shl_small d by d_bytes by_bytes in
    let at_d : (l : ℕ) → l < 16 → get_or d l 0 ≡ differing s m (get_or a l 0) (get_or b l 0)
    = λ l lane. lane-zip2 bit_and sum (replicate 16 m) l sum_bytes mask_bytes lane
    ∙ ap₂ bit_and (lane-zip2 bit_xor down b l down_bytes right lane
    ∙ ap (λ (x : ℕ). bit_xor x (get_or b l 0)) (lane-zip2 shr a by l left by_bytes lane
    ∙ ap (shr (get_or a l 0)) (get_or-replicate 16 l s 0 lane)))
    (get_or-replicate 16 l m 0 lane) in
    let at_up : (l : ℕ) → l < 16 → get_or up l 0 ≡ shl (differing s m (get_or a l 0) (get_or b l 0)) s
    = λ l lane. lane-zip2 shl d by l d_bytes by_bytes lane ∙ ap₂ shl (at_d l lane) (get_or-replicate 16 l s 0 lane) in
    record {
      left = zipped_bytes bit_xor (xor_lt 8) a up left up_bytes;
      right = zipped_bytes bit_xor (xor_lt 8) b d right d_bytes;
      lower = λ l k lane below.
          ap (λ (x : ℕ). bit_at x k) (lane-zip2 bit_xor a up l left up_bytes lane ∙ ap (bit_xor (get_or a l 0)) (at_up l lane))
          ∙ lower_bit s m (get_or a l 0) (get_or b l 0) k positive mask below;
      upper = λ l k lane below.
          ap (λ (x : ℕ). bit_at x k) (lane-zip2 bit_xor b d l right d_bytes lane ∙ ap (bit_xor (get_or b l 0)) (at_d l lane))
          ∙ upper_bit s m (get_or a l 0) (get_or b l 0) k mask below;
    }

-- ---- the masks

computed_mask_1 : agree_below (bit_at 0x55) (λ k. 1 - k / 1 % 2) 8 ≡ true
unfolding agree_below
computed_mask_1 = refl

computed_mask_2 : agree_below (bit_at 0x33) (λ k. 1 - k / 2 % 2) 8 ≡ true
unfolding agree_below
computed_mask_2 = refl

computed_mask_4 : agree_below (bit_at 0x0f) (λ k. 1 - k / 4 % 2) 8 ≡ true
unfolding agree_below
computed_mask_4 = refl

pub mask_1 : IsExchange 1 0x55
mask_1 = agree_at (bit_at 0x55) (λ k. 1 - k / 1 % 2) 8 computed_mask_1

pub mask_2 : IsExchange 2 0x33
mask_2 = agree_at (bit_at 0x33) (λ k. 1 - k / 2 % 2) 8 computed_mask_2

pub mask_4 : IsExchange 4 0x0f
mask_4 = agree_at (bit_at 0x0f) (λ k. 1 - k / 4 % 2) 8 computed_mask_4

-- ---- a level of exchanges

-- where the bit at place k of row i comes from
abbrev place : ℕ → ℕ → ℕ → ℕ
place s k i = cond (eqb (k / s % 2) 0) (cond (eqb (i / s % 2) 0) k (k + s)) (cond (eqb (i / s % 2) 0) (k - s) k)

abbrev row : ℕ → ℕ → ℕ → ℕ
row s k i = cond (eqb (k / s % 2) 0) (cond (eqb (i / s % 2) 0) i (i - s)) (cond (eqb (i / s % 2) 0) (i + s) i)

pub record Level (s : ℕ) (x y : List (List ℕ)) : Type 0 where
  pub at : (l k i : ℕ) → l < 16 → k < 8 → i < 8 → bit_of y l k i ≡ bit_of x l (place s k i) (row s k i)

cond_apart : (b : Bool) (f : ℕ → ℕ → ℕ) (k i k' i' : ℕ) → cond b (f k i) (f k' i') ≡ f (cond b k k') (cond b i i')
cond_apart true f k i k' i' = refl
cond_apart false f k i k' i' = refl

abbrev Pair : ℕ → List (List ℕ) → List (List ℕ) → ℕ → ℕ → Type 0
Pair s x y i j = Exchanged s (plane x i) (plane x j) (plane y i) (plane y j)

pub level_1 : (x y : List (List ℕ)) → Pair 1 x y 0 1 → Pair 1 x y 2 3 → Pair 1 x y 4 5 → Pair 1 x y 6 7 → Level 1 x y
level_1 x y e f g h = record {
  at = λ l k i lane below inside.
      let b : Bool = eqb (k / 1 % 2) 0 in
      below_eight (λ i. bit_of y l k i ≡ bit_of x l (place 1 k i) (row 1 k i))
      (e.lower l k lane below ∙ cond_apart b (bit_of x l) k 0 (k - 1) 1)
      (e.upper l k lane below ∙ cond_apart b (bit_of x l) (k + 1) 0 k 1)
      (f.lower l k lane below ∙ cond_apart b (bit_of x l) k 2 (k - 1) 3)
      (f.upper l k lane below ∙ cond_apart b (bit_of x l) (k + 1) 2 k 3)
      (g.lower l k lane below ∙ cond_apart b (bit_of x l) k 4 (k - 1) 5)
      (g.upper l k lane below ∙ cond_apart b (bit_of x l) (k + 1) 4 k 5)
      (h.lower l k lane below ∙ cond_apart b (bit_of x l) k 6 (k - 1) 7)
      (h.upper l k lane below ∙ cond_apart b (bit_of x l) (k + 1) 6 k 7) i inside;
}

pub level_2 : (x y : List (List ℕ)) → Pair 2 x y 0 2 → Pair 2 x y 1 3 → Pair 2 x y 4 6 → Pair 2 x y 5 7 → Level 2 x y
level_2 x y e f g h = record {
  at = λ l k i lane below inside.
      let b : Bool = eqb (k / 2 % 2) 0 in
      below_eight (λ i. bit_of y l k i ≡ bit_of x l (place 2 k i) (row 2 k i))
      (e.lower l k lane below ∙ cond_apart b (bit_of x l) k 0 (k - 2) 2)
      (f.lower l k lane below ∙ cond_apart b (bit_of x l) k 1 (k - 2) 3)
      (e.upper l k lane below ∙ cond_apart b (bit_of x l) (k + 2) 0 k 2)
      (f.upper l k lane below ∙ cond_apart b (bit_of x l) (k + 2) 1 k 3)
      (g.lower l k lane below ∙ cond_apart b (bit_of x l) k 4 (k - 2) 6)
      (h.lower l k lane below ∙ cond_apart b (bit_of x l) k 5 (k - 2) 7)
      (g.upper l k lane below ∙ cond_apart b (bit_of x l) (k + 2) 4 k 6)
      (h.upper l k lane below ∙ cond_apart b (bit_of x l) (k + 2) 5 k 7) i inside;
}

pub level_4 : (x y : List (List ℕ)) → Pair 4 x y 0 4 → Pair 4 x y 1 5 → Pair 4 x y 2 6 → Pair 4 x y 3 7 → Level 4 x y
level_4 x y e f g h = record {
  at = λ l k i lane below inside.
      let b : Bool = eqb (k / 4 % 2) 0 in
      below_eight (λ i. bit_of y l k i ≡ bit_of x l (place 4 k i) (row 4 k i))
      (e.lower l k lane below ∙ cond_apart b (bit_of x l) k 0 (k - 4) 4)
      (f.lower l k lane below ∙ cond_apart b (bit_of x l) k 1 (k - 4) 5)
      (g.lower l k lane below ∙ cond_apart b (bit_of x l) k 2 (k - 4) 6)
      (h.lower l k lane below ∙ cond_apart b (bit_of x l) k 3 (k - 4) 7)
      (e.upper l k lane below ∙ cond_apart b (bit_of x l) (k + 4) 0 k 4)
      (f.upper l k lane below ∙ cond_apart b (bit_of x l) (k + 4) 1 k 5)
      (g.upper l k lane below ∙ cond_apart b (bit_of x l) (k + 4) 2 k 6)
      (h.upper l k lane below ∙ cond_apart b (bit_of x l) (k + 4) 3 k 7) i inside;
}

-- ---- the three levels

abbrev place_4 : ℕ → ℕ → ℕ
place_4 k i = place 4 k i

abbrev row_4 : ℕ → ℕ → ℕ
row_4 k i = row 4 k i

abbrev place_2 : ℕ → ℕ → ℕ
place_2 k i = place 2 (place_4 k i) (row_4 k i)

abbrev row_2 : ℕ → ℕ → ℕ
row_2 k i = row 2 (place_4 k i) (row_4 k i)

abbrev place_1 : ℕ → ℕ → ℕ
place_1 k i = place 1 (place_2 k i) (row_2 k i)

abbrev row_1 : ℕ → ℕ → ℕ
row_1 k i = row 1 (place_2 k i) (row_2 k i)

-- what agrees at each pair of numbers below 8
abbrev agree_pairs : (ℕ → ℕ → ℕ) → (ℕ → ℕ → ℕ) → Bool
agree_pairs f g = agree_below (λ n. f (n % 8) (n / 8)) (λ n. g (n % 8) (n / 8)) 64

pairs_at : (f g : ℕ → ℕ → ℕ) → agree_pairs f g ≡ true → (k i : ℕ) → k < 8 → i < 8 → f k i ≡ g k i
pairs_at f g e k i below inside =
    let n : ℕ = k + 8 * i in
    let first : k ≡ (k + 8 * i) % 8 = omega arith in
    let second : i ≡ (k + 8 * i) / 8 = omega arith in
    ap₂ f first second ∙ agree_at (λ n. f (n % 8) (n / 8)) (λ n. g (n % 8) (n / 8)) 64 e (k + 8 * i) (omega arith)
    ∙ sym (ap₂ g first second)

computed_place_4 : agree_pairs (λ k i. place_4 k i % 8) place_4 ≡ true
unfolding agree_below
computed_place_4 = refl

computed_row_4 : agree_pairs (λ k i. row_4 k i % 8) row_4 ≡ true
unfolding agree_below
computed_row_4 = refl

computed_place_2 : agree_pairs (λ k i. place_2 k i % 8) place_2 ≡ true
unfolding agree_below
computed_place_2 = refl

computed_row_2 : agree_pairs (λ k i. row_2 k i % 8) row_2 ≡ true
unfolding agree_below
computed_row_2 = refl

computed_place_1 : agree_pairs place_1 (λ k i. i) ≡ true
unfolding agree_below
computed_place_1 = refl

computed_row_1 : agree_pairs row_1 (λ k i. k) ≡ true
unfolding agree_below
computed_row_1 = refl

small_at : (f : ℕ → ℕ → ℕ) → agree_pairs (λ k i. f k i % 8) f ≡ true → (k i : ℕ) → k < 8 → i < 8 → f k i < 8
small_at f e k i below inside = let same = pairs_at (λ k i. f k i % 8) f e k i below inside in omega (arith, same)

bits_transposed : (x y z w : List (List ℕ)) → Level 1 x y → Level 2 y z → Level 4 z w → (l k i : ℕ) → l < 16 → k < 8 → i < 8
    → bit_of w l k i ≡ bit_of x l i k
bits_transposed x y z w first second third l k i lane below inside =
    let k4 : place_4 k i < 8 = small_at place_4 computed_place_4 k i below inside in
    let i4 : row_4 k i < 8 = small_at row_4 computed_row_4 k i below inside in
    let k2 : place_2 k i < 8 = small_at place_2 computed_place_2 k i below inside in
    let i2 : row_2 k i < 8 = small_at row_2 computed_row_2 k i below inside in
    third.at l k i lane below inside
    ∙ second.at l (place_4 k i) (row_4 k i) lane k4 i4
    ∙ first.at l (place_2 k i) (row_2 k i) lane k2 i2
    ∙ ap₂ (bit_of x l) (pairs_at place_1 (λ k i. i) computed_place_1 k i below inside) (pairs_at row_1 (λ k i. k) computed_row_1 k i below inside)

-- ---- rows and blocks

own_byte : (b : ℕ) → b < 256 → of_bits (bit_at b) 8 ≡ b
own_byte b small = sym (own_bits b 8 small)

abbrev Changed : List (List ℕ) → List (List ℕ) → Type 0
Changed x y = (l k i : ℕ) → l < 16 → k < 8 → i < 8 → bit_of y l k i ≡ bit_of x l i k

blocks_are_rows : (x y : List (List ℕ)) → ArePlanes x → Changed x y → (k : ℕ) → k < 8 → block_of y k ≡ by_rows (plane x k)
unfolding by_rows
blocks_are_rows x y planes bits k below =
    state_by_lane (λ l. byte_of y l k) (λ l. slice_index (plane x k) l)
    (λ l lane. of_bits-ext (bit_of y l k) (bit_at (slice_index (plane x k) l)) 8 (λ i inside. bits l k i lane below inside)
    ∙ own_byte (slice_index (plane x k) l) ((planes.each k below).each l))

rows_are_blocks : (x y : List (List ℕ)) → ArePlanes y → Changed x y → (k : ℕ) → k < 8 → plane y k ≡ by_rows (block_of x k)
unfolding by_rows
rows_are_blocks x y planes bits k below =
    of_state (plane y k) (planes.each k below).count
    ∙ state_by_place (λ l. slice_index (plane y k) l) (λ l. byte_of x l k)
    (λ l lane. sym (own_byte (slice_index (plane y k) l) ((planes.each k below).each l))
    ∙ of_bits-ext (bit_at (slice_index (plane y k) l)) (bit_of x l k) 8 (λ i inside. bits l i k lane inside below))

-- the four exchanges of a level
pub record Exchanges (s : ℕ) (x y : List (List ℕ)) (i j k l : ℕ) : Type 0 where
  pub one : Pair s x y i (i + s)
  pub two : Pair s x y j (j + s)
  pub three : Pair s x y k (k + s)
  pub four : Pair s x y l (l + s)

pub transposed_is : (x y z w : List (List ℕ)) → ArePlanes x → Exchanges 1 x y 0 2 4 6 → Exchanges 2 y z 0 1 4 5 → Exchanges 4 z w 0 1 2 3
    → Transposed x w
transposed_is x y z w planes first second third =
    let made : ArePlanes w = record {
      each = below_eight (λ i. IsBytes 16 (plane w i)) third.one.left third.two.left third.three.left third.four.left
          third.one.right third.two.right third.three.right third.four.right;
    } in
    let bits : Changed x w = bits_transposed x y z w (level_1 x y first.one first.two first.three first.four)
    (level_2 y z second.one second.two second.three second.four) (level_4 z w third.one third.two third.three third.four) in
    record { planes = made; blocks = blocks_are_rows x w planes bits; rows = rows_are_blocks x w made bits }
