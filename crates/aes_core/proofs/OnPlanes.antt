-- Circuits on planes.
--
-- Bit k of lane l of the planes that a circuit gives is what the circuit gives on those bits of its planes,
-- and these are the bits of a byte. So a circuit that makes f b of the bits of each byte b makes f of each
-- byte of the eight blocks.
use Rattle.std.proofs.Common.{◌≡◌, ◌<◌, ◌+◌, ◌%◌, min, max, List, [], ◌∷◌, ℕ, zero, suc, length, get_or, slice_index, replicate, refl, sym, ap, ap₂, ◌∙◌, subst, arith, bit_xor, bit_and, bit_or, inl, inr, lit<}
use Rattle.std.specs.Int.{bit_at}
use Rattle.std.specs.Int.Bits.{and_lt}
use Rattle.std.specs.Simd.Lanes.{zip2}
use Rattle.std.proofs.lemmas.Bool.{cases_lt}
use Rattle.std.proofs.lemmas.List.{get_or_past}
use Rattle.std.proofs.lemmas.Nat.{or_lt, xor_lt}
use Rattle.std.proofs.lemmas.Nat.Bits.{bit_at-lt, bit_at-zero, bit_at_and, bit_at_or, bit_at_xor, bit_at_ones, same_from_bits_below}
use Rattle.std.proofs.lemmas.Simd.{length-zip2, get_or-zip2, length-replicate, get_or-replicate}
use Rattle.vc_base.specs.Bits.{of_bits}
use Rattle.vc_base.specs.Bytes.{IsBytes, xor_bytes}
use Rattle.vc_base.proofs.Bits.{bit_at-of_bits, of_bits-below, of_bits-ext}
use Rattle.aes_core.specs.Aes.{at, state}
use Rattle.aes_core.specs.Laws.Planes.{plane, bit_of, byte_of, ArePlanes, InEachBlock, Added}
use Rattle.aes_core.specs.Laws.States.{state_by_lane}
use Rattle.aes_core.proofs.Gates.{Gate, Operations, given, Each, Keeps, Respects, no_values, more_values, given_keeps, given_respects}

-- what holds of each of eight numbers
pub below_eight : (P : ℕ → Type 0) → P 0 → P 1 → P 2 → P 3 → P 4 → P 5 → P 6 → P 7 → (i : ℕ) → i < 8 → P i
below_eight P p0 p1 p2 p3 p4 p5 p6 p7 zero below = p0
below_eight P p0 p1 p2 p3 p4 p5 p6 p7 (suc zero) below = p1
below_eight P p0 p1 p2 p3 p4 p5 p6 p7 (suc (suc zero)) below = p2
below_eight P p0 p1 p2 p3 p4 p5 p6 p7 (suc (suc (suc zero))) below = p3
below_eight P p0 p1 p2 p3 p4 p5 p6 p7 (suc (suc (suc (suc zero)))) below = p4
below_eight P p0 p1 p2 p3 p4 p5 p6 p7 (suc (suc (suc (suc (suc zero))))) below = p5
below_eight P p0 p1 p2 p3 p4 p5 p6 p7 (suc (suc (suc (suc (suc (suc zero)))))) below = p6
below_eight P p0 p1 p2 p3 p4 p5 p6 p7 (suc (suc (suc (suc (suc (suc (suc zero))))))) below = p7
below_eight P p0 p1 p2 p3 p4 p5 p6 p7 (suc (suc (suc (suc (suc (suc (suc (suc i)))))))) below = absurd (omega arith)

-- ---- the operations on planes and on bits

abbrev pub on_planes : Operations (List ℕ)
on_planes = record { sum = zip2 bit_xor; meet = zip2 bit_and; join = zip2 bit_or; none = replicate 16 0 }

abbrev pub on_bits : Operations ℕ
on_bits = record { sum = λ a b. (a + b) % 2; meet = min; join = max; none = 0 }

pub is_16 : (xs : List ℕ) → length xs ≡ 16 → ((l : ℕ) → l < 16 → get_or xs l 0 < 256) → IsBytes 16 xs
is_16 xs long each = record {
  count = long;
  each = λ l. elim (cases_lt l 16) [
    | inl below ↦ each l below
    | inr past ↦ subst (λ (w : ℕ). w < 256) (sym (get_or_past xs l 0 (omega (arith, long)))) (omega arith)
  ];
}

pub lane-zip2 : (op : ℕ → ℕ → ℕ) (xs ys : List ℕ) (l : ℕ) → IsBytes 16 xs → IsBytes 16 ys → l < 16
    → get_or (zip2 op xs ys) l 0 ≡ op (get_or xs l 0) (get_or ys l 0)
lane-zip2 op xs ys l left right below =
    let x_long = left.count in
    let y_long = right.count in
    get_or-zip2 op xs ys l 0 0 0 (omega arith) (omega arith)

pub zipped_bytes : (op : ℕ → ℕ → ℕ) → ((a b : ℕ) → a < 256 → b < 256 → op a b < 256) → (xs ys : List ℕ)
    → IsBytes 16 xs → IsBytes 16 ys → IsBytes 16 (zip2 op xs ys)
zipped_bytes op keeps xs ys left right =
    is_16 (zip2 op xs ys) (length-zip2 op xs ys (left.count ∙ sym right.count) ∙ left.count)
    (λ l below. subst (λ (w : ℕ). w < 256) (sym (lane-zip2 op xs ys l left right below))
    (keeps (get_or xs l 0) (get_or ys l 0) (left.each l) (right.each l)))

pub splat_bytes : (b : ℕ) → b < 256 → IsBytes 16 (replicate 16 b)
splat_bytes b small =
    is_16 (replicate 16 b) (length-replicate 16 b) (λ l below. subst (λ (w : ℕ). w < 256) (sym (get_or-replicate 16 l b 0 below)) small)

planes_keep : Keeps on_planes (IsBytes 16)
planes_keep = record {
  sum = zipped_bytes bit_xor (xor_lt 8);
  meet = zipped_bytes bit_and (and_lt 8);
  join = zipped_bytes bit_or (or_lt 8);
  none = splat_bytes 0 (lit< tt);
}

-- bit k of lane l
abbrev picked : ℕ → ℕ → List ℕ → ℕ
picked l k xs = bit_at (get_or xs l 0) k

picked_respects : (l k : ℕ) → l < 16 → Respects on_planes on_bits (IsBytes 16) (picked l k)
picked_respects l k below = record {
  sum = λ a b left right. ap (λ (w : ℕ). bit_at w k) (lane-zip2 bit_xor a b l left right below) ∙ bit_at_xor (get_or a l 0) (get_or b l 0) k;
  meet = λ a b left right. ap (λ (w : ℕ). bit_at w k) (lane-zip2 bit_and a b l left right below) ∙ bit_at_and (get_or a l 0) (get_or b l 0) k;
  join = λ a b left right. ap (λ (w : ℕ). bit_at w k) (lane-zip2 bit_or a b l left right below) ∙ bit_at_or (get_or a l 0) (get_or b l 0) k;
  none = ap (λ (w : ℕ). bit_at w k) (get_or-replicate 16 l 0 0 below) ∙ bit_at-zero k;
}

-- ---- the inputs: the planes, the last in front, and behind them all ones

abbrev pub inputs : {A : Type 0} → (ℕ → A) → A → List A
inputs x ones = x 7 ∷ x 6 ∷ x 5 ∷ x 4 ∷ x 3 ∷ x 2 ∷ x 1 ∷ x 0 ∷ ones ∷ []

abbrev pub plane_inputs : List (List ℕ) → List (List ℕ)
plane_inputs x = inputs (plane x) (replicate 16 255)

are_inputs : (x : List (List ℕ)) → ArePlanes x → Each on_planes (IsBytes 16) (plane_inputs x)
are_inputs x planes =
    let more : (i : ℕ) → i < 8 → (xs : List (List ℕ)) → Each on_planes (IsBytes 16) xs → Each on_planes (IsBytes 16) (plane x i ∷ xs)
    = λ i below xs rest. more_values on_planes (IsBytes 16) (plane x i) xs (planes.each i below) rest in
    more 7 (lit< tt) _ (more 6 (lit< tt) _ (more 5 (lit< tt) _ (more 4 (lit< tt) _
    (more 3 (lit< tt) _ (more 2 (lit< tt) _ (more 1 (lit< tt) _ (more 0 (lit< tt) _
    (more_values on_planes (IsBytes 16) (replicate 16 255) [] (splat_bytes 255 (lit< tt))
    (no_values on_planes (IsBytes 16) planes_keep)))))))))

-- a circuit on the bits of a byte
abbrev packed : List ℕ → ℕ
packed ys = of_bits (λ i. get_or ys i 0) 8

unfoldable pub on_byte : List Gate → List ℕ → ℕ → ℕ
on_byte gs ps b = packed (given on_bits gs ps (inputs (bit_at b) 1))

inputs-ext : (f g : ℕ → ℕ) (a b : ℕ) → ((i : ℕ) → i < 8 → f i ≡ g i) → a ≡ b → inputs f a ≡ inputs g b
inputs-ext f g a b same last =
    let more : (i : ℕ) → i < 8 → (xs ys : List ℕ) → xs ≡ ys → f i ∷ xs ≡ g i ∷ ys = λ i below xs ys rest. ap₂ ◌∷◌ (same i below) rest in
    more 7 (lit< tt) _ _ (more 6 (lit< tt) _ _ (more 5 (lit< tt) _ _ (more 4 (lit< tt) _ _
    (more 3 (lit< tt) _ _ (more 2 (lit< tt) _ _ (more 1 (lit< tt) _ _ (more 0 (lit< tt) _ _
    (ap (λ (y : ℕ). y ∷ []) last))))))))

pub byte_of-below : (x : List (List ℕ)) (l k : ℕ) → byte_of x l k < 256
byte_of-below x l k = of_bits-below (bit_of x l k) 8 (record { each = λ i. bit_at-lt (slice_index (plane x i) l) k })

pub bit_at-byte_of : (x : List (List ℕ)) (l k i : ℕ) → i < 8 → bit_at (byte_of x l k) i ≡ bit_of x l k i
bit_at-byte_of x l k i below = bit_at-of_bits (bit_of x l k) 8 i (record { each = λ i. bit_at-lt (slice_index (plane x i) l) k }) below

circuit_byte : (gs : List Gate) (ps : List ℕ) (x : List (List ℕ)) (l k : ℕ) → length ps ≡ 8 → ArePlanes x → l < 16 → k < 8
    → byte_of (given on_planes gs ps (plane_inputs x)) l k ≡ on_byte gs ps (byte_of x l k)
unfolding on_byte
circuit_byte gs ps x l k eight planes lane block =
    let bits : inputs (bit_of x l k) (picked l k (replicate 16 255)) ≡ inputs (bit_at (byte_of x l k)) 1
    = inputs-ext (bit_of x l k) (bit_at (byte_of x l k)) (picked l k (replicate 16 255)) 1
    (λ i below. sym (bit_at-byte_of x l k i below))
    (ap (λ (w : ℕ). bit_at w k) (get_or-replicate 16 l 255 0 lane) ∙ bit_at_ones 8 k block) in
    of_bits-ext (bit_of (given on_planes gs ps (plane_inputs x)) l k)
    (λ i. get_or (given on_bits gs ps (inputs (bit_at (byte_of x l k)) 1)) i 0) 8
    (λ i below.
    given_respects on_planes on_bits (IsBytes 16) (picked l k) gs ps (plane_inputs x) [] 0 i planes_keep
    (picked_respects l k lane) (are_inputs x planes) (omega arith)
    ∙ ap (λ (ys : List ℕ). get_or (given on_bits gs ps ys) i 0) bits)

-- a circuit that makes f b of the bits of each byte b
pub circuit_is : (gs : List Gate) (ps : List ℕ) (f : ℕ → ℕ) (x : List (List ℕ)) → length ps ≡ 8
    → ((b : ℕ) → b < 256 → on_byte gs ps b ≡ f b) → ArePlanes x
    → InEachBlock (λ s. state (λ r c. f (at s r c))) x (given on_planes gs ps (plane_inputs x))
circuit_is gs ps f x eight computed planes = record {
  planes = record { each = λ i below. given_keeps on_planes (IsBytes 16) gs ps (plane_inputs x) [] i planes_keep (are_inputs x planes) (omega arith) };
  each = λ k below.
      state_by_lane (λ l. byte_of (given on_planes gs ps (plane_inputs x)) l k) (λ l. f (byte_of x l k))
      (λ l lane. circuit_byte gs ps x l k eight planes lane below ∙ computed (byte_of x l k) (byte_of-below x l k));
}

-- ---- the XOR of two groups

bits_added : (x y z : List (List ℕ)) → ArePlanes x → ArePlanes y
    → ((i : ℕ) → i < 8 → plane z i ≡ zip2 bit_xor (plane x i) (plane y i)) → (l k i : ℕ) → l < 16 → i < 8
    → bit_of z l k i ≡ (bit_of x l k i + bit_of y l k i) % 2
bits_added x y z left right sum l k i lane below =
    ap (λ (xs : List ℕ). bit_at (get_or xs l 0) k) (sum i below)
    ∙ ap (λ (w : ℕ). bit_at w k) (lane-zip2 bit_xor (plane x i) (plane y i) l (left.each i below) (right.each i below) lane)
    ∙ bit_at_xor (get_or (plane x i) l 0) (get_or (plane y i) l 0) k

bytes_added : (x y z : List (List ℕ)) → ArePlanes x → ArePlanes y
    → ((i : ℕ) → i < 8 → plane z i ≡ zip2 bit_xor (plane x i) (plane y i)) → (l k : ℕ) → l < 16
    → byte_of z l k ≡ bit_xor (byte_of x l k) (byte_of y l k)
bytes_added x y z left right sum l k lane =
    same_from_bits_below 8 (byte_of z l k) (bit_xor (byte_of x l k) (byte_of y l k)) (byte_of-below z l k)
    (xor_lt 8 (byte_of x l k) (byte_of y l k) (byte_of-below x l k) (byte_of-below y l k))
    (λ i below.
    bit_at-byte_of z l k i below
    ∙ bits_added x y z left right sum l k i lane below
    ∙ ap₂ (λ (a b : ℕ). (a + b) % 2) (sym (bit_at-byte_of x l k i below)) (sym (bit_at-byte_of y l k i below))
    ∙ sym (bit_at_xor (byte_of x l k) (byte_of y l k) i))

abbrev xor_planes : List (List ℕ) → List (List ℕ) → List (List ℕ)
xor_planes x y =
    zip2 bit_xor (plane x 0) (plane y 0) ∷ zip2 bit_xor (plane x 1) (plane y 1)
    ∷ zip2 bit_xor (plane x 2) (plane y 2) ∷ zip2 bit_xor (plane x 3) (plane y 3)
    ∷ zip2 bit_xor (plane x 4) (plane y 4) ∷ zip2 bit_xor (plane x 5) (plane y 5)
    ∷ zip2 bit_xor (plane x 6) (plane y 6) ∷ zip2 bit_xor (plane x 7) (plane y 7) ∷ []

pub added_is : (x y : List (List ℕ)) → ArePlanes x → ArePlanes y → Added x y (xor_planes x y)
unfolding xor_bytes
added_is x y left right =
    let sum : (i : ℕ) → i < 8 → plane (xor_planes x y) i ≡ zip2 bit_xor (plane x i) (plane y i)
    = below_eight (λ i. plane (xor_planes x y) i ≡ zip2 bit_xor (plane x i) (plane y i)) refl refl refl refl refl refl refl refl in
    record {
      planes = record {
        each = λ i below.
            subst (IsBytes 16) (sym (sum i below))
            (zipped_bytes bit_xor (xor_lt 8) (plane x i) (plane y i) (left.each i below) (right.each i below));
      };
      each = λ k below.
          state_by_lane (λ l. byte_of (xor_planes x y) l k) (λ l. bit_xor (byte_of x l k) (byte_of y l k))
          (λ l lane. bytes_added x y (xor_planes x y) left right sum l k lane);
    }
