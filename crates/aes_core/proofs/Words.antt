-- The key schedule, word by word.
use Rattle.std.proofs.Common.{◌≡◌, ◌<◌, ◌≤◌, ◌+◌, ◌*◌, ◌-◌, ◌/◌, ◌%◌, ◌^◌, List, [], ◌∷◌, ◌++◌, ℕ, Bool, true, false, suc, length, replicate, lit<, take, drop, length-append, length-drop, get_or, eqb, cond, ◌≢◌, refl, sym, ap, ap₂, ◌∙◌, subst, arith, bit_xor}
use Rattle.std.proofs.lemmas.Bool.{eq-eqb, ne_eqb}
use Rattle.std.proofs.lemmas.List.{take_all, length-take-le}
use Rattle.std.proofs.lemmas.Slice.{take-put_mid}
use Rattle.std.proofs.Math.Seq.{take-append_seam}
use borrow.Rule.Slice.PartMut.{put_mid}
use Rattle.std.specs.Int.Bits.{xor_zero_r}
use Rattle.vc_base.specs.Bytes.{IsBytes, xor_bytes}
use Rattle.vc_base.specs.Polynomial.{product, times, remainder, coefficients}
use Rattle.aes_core.specs.Aes.{sub_byte, sub_word, sub_bytes, power, turned, next_word, schedule}
use Rattle.vc_base.proofs.EachNumber.{agree_below, agree_at}
use Rattle.aes_core.specs.Laws.Planes.{plane, InEachBlock, by_rows, Transposed}
use Rattle.aes_core.specs.Laws.States.{four}
use Rattle.vc_base.proofs.Bytes.{AreBytes, is_bytes, AreBytes-cons, AreBytes-nil}
use Rattle.vc_base.proofs.Chunks.{piece-take}

-- ---- the XOR of words

pub xor_four : (s t : List ℕ) → length s ≡ 4 → length t ≡ 4
    → bit_xor (get_or s 0 0) (get_or t 0 0) ∷ bit_xor (get_or s 1 0) (get_or t 1 0)
    ∷ bit_xor (get_or s 2 0) (get_or t 2 0) ∷ bit_xor (get_or s 3 0) (get_or t 3 0) ∷ []
    ≡ xor_bytes s t
unfolding xor_bytes
xor_four s t long_s long_t = sym (ap₂ xor_bytes (four s long_s) (four t long_t))

-- ---- SubWord, through eight blocks

-- a word in the first lanes of a row
abbrev pub word_block : ℕ → ℕ → ℕ → ℕ → List ℕ
word_block a b c d = a ∷ b ∷ c ∷ d ∷ 0 ∷ 0 ∷ 0 ∷ 0 ∷ 0 ∷ 0 ∷ 0 ∷ 0 ∷ 0 ∷ 0 ∷ 0 ∷ 0 ∷ []

pub word_block_bytes : (a b c d : ℕ) → a < 256 → b < 256 → c < 256 → d < 256 → IsBytes 16 (word_block a b c d)
word_block_bytes a b c d a_small b_small c_small d_small =
    let more : (xs : List ℕ) → AreBytes xs → AreBytes (0 ∷ xs) = λ xs rest. AreBytes-cons 0 xs (lit< tt) rest in
    is_bytes 16 (word_block a b c d) refl
    (AreBytes-cons _ _ a_small (AreBytes-cons _ _ b_small (AreBytes-cons _ _ c_small (AreBytes-cons _ _ d_small
    (more _ (more _ (more _ (more _ (more _ (more _ (more _ (more _ (more _ (more _ (more _ (more _ AreBytes-nil))))))))))))))))

pub word_substituted : (a b c d : ℕ) (y z v : List (List ℕ)) → Transposed (replicate 8 (word_block a b c d)) y
    → InEachBlock sub_bytes y z → Transposed z v
    → get_or (plane v 0) 0 0 ∷ get_or (plane v 0) 1 0 ∷ get_or (plane v 0) 2 0 ∷ get_or (plane v 0) 3 0 ∷ []
    ≡ sub_word (a ∷ b ∷ c ∷ d ∷ [])
unfolding sub_bytes by_rows
word_substituted a b c d y z v first box second =
    let block : plane v 0 ≡ by_rows (sub_bytes (by_rows (word_block a b c d)))
    = second.rows 0 (lit< tt) ∙ ap by_rows (box.each 0 (lit< tt) ∙ ap sub_bytes (first.blocks 0 (lit< tt))) in
    ap (λ (s : List ℕ). get_or s 0 0 ∷ get_or s 1 0 ∷ get_or s 2 0 ∷ get_or s 3 0 ∷ []) block

-- ---- what a word adds to the next

computed_powers : agree_below power (λ k. 1 * 2 ^ k % 256) 8 ≡ true
unfolding agree_below power product times remainder coefficients
computed_powers = refl

power_of_two : (k : ℕ) → k < 8 → power k ≡ 1 * 2 ^ k % 256
power_of_two k below = agree_at power (λ k. 1 * 2 ^ k % 256) 8 computed_powers k below

chosen : (b : Bool) (x y : List ℕ) → b ≡ true → cond b x y ≡ x
chosen true x y is = refl
chosen false x y is = cc

other : (b : Bool) (x y : List ℕ) → b ≡ false → cond b x y ≡ y
other true x y is = cc
other false x y is = refl

-- every eighth word
turned_by_8 : (i a b c d : ℕ) → i < 60 → i % 8 ≡ 0
    → bit_xor (sub_byte b) (1 * 2 ^ (i / 8 - 1) % 256) ∷ sub_byte c ∷ sub_byte d ∷ sub_byte a ∷ [] ≡ turned i (a ∷ b ∷ c ∷ d ∷ [])
unfolding turned xor_bytes
turned_by_8 i a b c d below at =
    let same : bit_xor (sub_byte b) (1 * 2 ^ (i / 8 - 1) % 256) ≡ bit_xor (sub_byte b) (power (i / 8 - 1))
    = ap (bit_xor (sub_byte b)) (sym (power_of_two (i / 8 - 1) (omega arith))) in
    ap₂ ◌∷◌ same (ap₂ ◌∷◌ (sym (xor_zero_r (sub_byte c))) (ap₂ ◌∷◌ (sym (xor_zero_r (sub_byte d))) (ap₂ ◌∷◌ (sym (xor_zero_r (sub_byte a))) refl)))
    ∙ sym (chosen (eqb (i % 8) 0) _ _ (eq-eqb (i % 8) 0 at))

-- the words in the middle between those
pub turned_middle : (i : ℕ) (t : List ℕ) → length t ≡ 4 → i % 8 ≢ 0 → i % 8 ≡ 4
    → sub_word (get_or t 0 0 ∷ get_or t 1 0 ∷ get_or t 2 0 ∷ get_or t 3 0 ∷ []) ≡ turned i t
unfolding turned
turned_middle i t long not_at at =
    ap sub_word (sym (four t long))
    ∙ sym (other (eqb (i % 8) 0) _ _ (ne_eqb (i % 8) 0 not_at) ∙ chosen (eqb (i % 8) 4) _ _ (eq-eqb (i % 8) 4 at))

pub turned_first : (i : ℕ) (t : List ℕ) → length t ≡ 4 → i < 60 → i % 8 ≡ 0
    → bit_xor (sub_byte (get_or t 1 0)) (1 * 2 ^ (i / 8 - 1) % 256) ∷ sub_byte (get_or t 2 0) ∷ sub_byte (get_or t 3 0) ∷ sub_byte (get_or t 0 0) ∷ [] ≡ turned i t
turned_first i t long below at =
    turned_by_8 i (get_or t 0 0) (get_or t 1 0) (get_or t 2 0) (get_or t 3 0) below at ∙ ap (turned i) (sym (four t long))

pub turned_rest : (i : ℕ) (t : List ℕ) → i % 8 ≢ 0 → i % 8 ≢ 4 → t ≡ turned i t
unfolding turned
turned_rest i t not_first not_middle =
    sym (other (eqb (i % 8) 0) _ _ (ne_eqb (i % 8) 0 not_first) ∙ other (eqb (i % 8) 4) _ _ (ne_eqb (i % 8) 4 not_middle))

-- ---- the schedule, as a loop writes it

-- word i rests on the words before it alone
next_word-take : (i : ℕ) (w : List ℕ) → 8 ≤ i → next_word i (take (4 * i) w) ≡ next_word i w
unfolding next_word
next_word-take i w low =
    ap₂ (λ (s t : List ℕ). xor_bytes s (turned i t))
    (piece-take 4 (i - 8) (4 * i) w (omega arith))
    (piece-take 4 (i - 1) (4 * i) w (omega arith))

one_more : (key : List ℕ) (n m : ℕ) → suc n ≡ m → schedule key n ++ next_word (8 + n) (schedule key n) ≡ schedule key m
unfolding schedule
one_more key n m next = subst (λ (k : ℕ). schedule key n ++ next_word (8 + n) (schedule key n) ≡ schedule key k) next refl

pub schedule_starts : (key xs ys : List ℕ) → length key ≡ 32 → xs ≡ key → take 32 (xs ++ ys) ≡ schedule key 0
unfolding schedule
schedule_starts key xs ys long is =
    let exact : 32 ≡ length xs = omega (arith, ap length is) in
    ap (λ (k : ℕ). take k (xs ++ ys)) exact ∙ take-append_seam xs ys ∙ is

pub length-written : (a k : ℕ) (xs ys : List ℕ) → a + k ≤ length xs → length ys ≡ k → length (put_mid a k xs ys) ≡ length xs
length-written a k xs ys within long =
    omega (arith, length-append (take a xs) (ys ++ drop k (drop a xs)), length-append ys (drop k (drop a xs)), length-take-le a xs (omega arith), length-drop k (drop a xs), length-drop a xs)

pub schedule_goes_on : (key w ys : List ℕ) (i k : ℕ) → 8 ≤ i → 4 * i ≤ length w → length ys ≡ 4
    → take (4 * i) w ≡ schedule key (i - 8) → ys ≡ next_word i w
    → take (4 * (i + 1)) (put_mid (4 * i) k w ys) ≡ schedule key (i + 1 - 8)
schedule_goes_on key w ys i k low within long so_far next =
    let number : i ≡ 8 + (i - 8) = omega arith in
    let written : take (4 * (i + 1)) (put_mid (4 * i) k w ys) ≡ take (4 * i) w ++ ys
    = take-put_mid (4 * i) k w ys (4 * (i + 1)) (omega arith) within in
    let word : ys ≡ next_word i (schedule key (i - 8))
    = next ∙ sym (next_word-take i w low) ∙ ap (next_word i) so_far in
    written
    ∙ ap₂ ◌++◌ so_far word
    ∙ ap (λ (j : ℕ). schedule key (i - 8) ++ next_word j (schedule key (i - 8))) number
    ∙ one_more key (i - 8) (i + 1 - 8) (omega arith)

pub schedule_ends : (key w : List ℕ) (i : ℕ) → i ≡ 60 → length w ≡ 240 → take (4 * i) w ≡ schedule key (i - 8) → w ≡ schedule key 52
schedule_ends key w i at long so_far =
    let P : ℕ → Type 0 = λ j. take (4 * j) w ≡ schedule key (j - 8) in
    let all : take 240 w ≡ schedule key 52 = subst P at so_far in
    sym (take_all 240 w (omega arith)) ∙ all
