-- Numbers by their bits, and by a test.
--
-- `of_bits` gives a number with chosen bits, and a number below 2^n is that of its own n bits. The number that
-- `number_below` finds is the only one that passes the test.
use Rattle.std.proofs.Common.{◌≡◌, ◌<◌, ◌≤◌, ◌+◌, ◌-◌, ◌*◌, ◌^◌, ℕ, zero, suc, Bool, true, false, cond, refl, sym, ap, ap₂, ◌∙◌, arith, pow-suc, inl, inr}
use Rattle.std.specs.Int.{bit_at}
use Rattle.std.proofs.lemmas.Bool.{cases_eq, cases_lt}
use Rattle.std.proofs.lemmas.Nat.Bits.{bit_at-lt, bit_at_cat_low, bit_at_cat_high, same_from_bits_below}
use Rattle.vc_base.specs.Bits.{of_bits, number_below}

-- each number that f gives is a bit
pub record AreBits (f : ℕ → ℕ) : Type 0 where
  pub each : (i : ℕ) → f i < 2

pub of_bits-below : (f : ℕ → ℕ) (n : ℕ) → AreBits f → of_bits f n < 2 ^ n
unfolding of_bits
of_bits-below f zero bits = omega arith
of_bits-below f (suc n) bits =
    let power : 2 ^ suc n ≡ 2 ^ n * 2 = pow-suc 2 n in
    let rest : of_bits f n < 2 ^ n = of_bits-below f n bits in
    let highest : f n * 2 ^ n ≤ 2 ^ n = elim (cases_lt (f n) 1) [
      | inl none ↦ let e : f n ≡ 0 = omega arith in rw e (omega arith)
      | inr one ↦ let e : f n ≡ 1 = omega (arith, bits.each n) in rw e (omega arith)
    ] in
    omega arith

pub bit_at-of_bits : (f : ℕ → ℕ) (n i : ℕ) → AreBits f → i < n → bit_at (of_bits f n) i ≡ f i
unfolding of_bits
bit_at-of_bits f zero i bits below = absurd (omega arith)
bit_at-of_bits f (suc n) i bits below = elim (cases_lt i n) [
  | inl lower ↦ bit_at_cat_low (f n) n (of_bits f n) i lower ∙ bit_at-of_bits f n i bits lower
  | inr last ↦
      let at : i ≡ n = omega arith in
      let zero_left : i - n ≡ 0 = omega arith in
      let lowest : bit_at (f n) 0 ≡ f n = omega (arith, bits.each n) in
      bit_at_cat_high (f n) n (of_bits f n) i (of_bits-below f n bits) last
      ∙ ap (bit_at (f n)) zero_left ∙ lowest ∙ ap f (sym at)
]

pub of_bits-ext : (f g : ℕ → ℕ) (n : ℕ) → ((i : ℕ) → i < n → f i ≡ g i) → of_bits f n ≡ of_bits g n
unfolding of_bits
of_bits-ext f g zero same = refl
of_bits-ext f g (suc n) same =
    ap₂ (λ (b r : ℕ). b * 2 ^ n + r) (same n (omega arith))
    (of_bits-ext f g n (λ i below. same i (omega arith)))

-- a number below 2^n is that of its own bits
pub own_bits : (x n : ℕ) → x < 2 ^ n → x ≡ of_bits (bit_at x) n
own_bits x n below =
    let bits : AreBits (bit_at x) = record { each = λ i. bit_at-lt x i } in
    same_from_bits_below n x (of_bits (bit_at x) n) below (of_bits-below (bit_at x) n bits)
    (λ i inside. sym (bit_at-of_bits (bit_at x) n i bits inside))

-- ---- the number that passes a test

pick : (b : Bool) (n rest x : ℕ) → (b ≡ true → n ≡ x) → (b ≡ false → rest ≡ x) → cond b n rest ≡ x
pick true n rest x here below = here refl
pick false n rest x here below = below refl

passes_here : (test : ℕ → Bool) (x n : ℕ) → x ≡ n → test x ≡ true → test n ≡ false → ⊥
passes_here test x n same passes fails = let e : test x ≡ test n = ap test same in cc

-- a search finds what alone passes the test
pub number_below-only : (n : ℕ) (test : ℕ → Bool) (x : ℕ) → x < n → test x ≡ true
    → ((c : ℕ) → c < n → test c ≡ true → c ≡ x) → number_below n test ≡ x
unfolding number_below
number_below-only zero test x below passes only = absurd (omega arith)
number_below-only (suc n) test x below passes only =
    pick (test n) n (number_below n test) x
    (λ e. only n (omega arith) e)
    (λ fails. number_below-only n test x
    (elim (cases_eq x n) [ inl same ↦ absurd (passes_here test x n same passes fails) | inr other ↦ omega arith ])
    passes
    (λ c lower e. only c (omega arith) e))

pub number_below-none : (n : ℕ) (test : ℕ → Bool) → ((c : ℕ) → test c ≡ false) → number_below n test ≡ 0
unfolding number_below
number_below-none zero test fails = refl
number_below-none (suc n) test fails =
    pick (test n) n (number_below n test) 0 (λ e. let no = fails n in cc) (λ _. number_below-none n test fails)
