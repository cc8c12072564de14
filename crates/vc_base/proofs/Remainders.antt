-- The remainder of a polynomial is the one that division leaves, and nothing else is.
--
-- IsCongruent m a b      a and b differ by a multiple of m
-- added cs ds            the coefficients of the sum of two polynomials
--
-- Congruence is kept by sums, by x and by `reduced`, so Horner's rule computes a remainder. A multiple of m
-- is 0 or has at least m's degree, by recursion over the other factor: so two remainders, whose sum is a
-- multiple of m, are one.
use Rattle.std.proofs.Common.{◌≡◌, ◌<◌, ◌≤◌, ℕ, zero, suc, ◌+◌, ◌*◌, ◌/◌, ◌%◌, ◌^◌, ◌==◌, nat_lt, bit_xor, Bool, true, false, not, if◌then◌else◌, List, [], ◌∷◌, length, refl, sym, ap, ap₂, ◌∙◌, subst, arith, pow_pos, pow_mono, pow-suc, not-le_of_lt, mod-eq_of_lt, ⊎_elim, ◌⊎◌, inl, inr}
use Rattle.std.proofs.lemmas.Bool.Decides.{nat_tests}
use Rattle.std.proofs.lemmas.Bool.{cond_both, cond-true, cond-false, ltb-true, ltb-false, lt-ltb, le-ltb}
use Rattle.std.proofs.lemmas.Nat.{xor_mod}
use Rattle.std.proofs.lemmas.Grind.{pow_more}
use lib.Bits.{xor_assoc, xor_self, xor_zero_r, xor_lt}
use Rattle.vc_base.specs.Polynomial.{IsOfDegree, number, coefficients, times, IsRemainder, reduced, remainder, product}
use Rattle.vc_base.proofs.Xor.{xor_cancel, xor_middle, xor_move, same_from_zero_xor, double_xor, xor_bit, xor_high, xor_leading}

-- ---- multiples

abbrev pub differs : Bool → Bool → Bool
differs true d = not d
differs false d = d

abbrev pub added : List Bool → List Bool → List Bool
added [] ds = ds
added (c ∷ cs) [] = c ∷ cs
added (c ∷ cs) (d ∷ ds) = differs c d ∷ added cs ds

term_added : (p : ℕ) (c d : Bool)
    → (if differs c d then p else 0) ≡ bit_xor (if c then p else 0) (if d then p else 0)
term_added p true true = sym (xor_self p)
term_added p true false = sym (xor_zero_r p)
term_added p false d = refl

pub times-added : (p : ℕ) (cs ds : List Bool)
    → times p (added cs ds) ≡ bit_xor (times p cs) (times p ds)
unfolding times
times-added p [] ds = refl
times-added p (c ∷ cs) [] = sym (xor_zero_r (times p (c ∷ cs)))
times-added p (c ∷ cs) (d ∷ ds) =
    ap₂ bit_xor (term_added p c d) (ap (λ (x : ℕ). 2 * x) (times-added p cs ds)
    ∙ double_xor (times p cs) (times p ds))
    ∙ xor_middle (if c then p else 0) (if d then p else 0) (2 * times p cs) (2 * times p ds)

term_xor : (p q : ℕ) (c : Bool)
    → (if c then bit_xor p q else 0) ≡ bit_xor (if c then p else 0) (if c then q else 0)
term_xor p q true = refl
term_xor p q false = refl

pub times-xor : (p q : ℕ) (cs : List Bool)
    → times (bit_xor p q) cs ≡ bit_xor (times p cs) (times q cs)
unfolding times
times-xor p q [] = refl
times-xor p q (c ∷ cs) =
    ap₂ bit_xor (term_xor p q c) (ap (λ (x : ℕ). 2 * x) (times-xor p q cs)
    ∙ double_xor (times p cs) (times q cs))
    ∙ xor_middle (if c then p else 0) (if c then q else 0) (2 * times p cs) (2 * times q cs)

pub times-zero : (cs : List Bool) → times 0 cs ≡ 0
unfolding times
times-zero [] = refl
times-zero (true ∷ cs) = ap (λ (x : ℕ). 2 * x) (times-zero cs)
times-zero (false ∷ cs) = ap (λ (x : ℕ). 2 * x) (times-zero cs)

-- a multiple of m is 0, or has at least the degree of m
multiples : (n m : ℕ) → IsOfDegree n m → (q : List Bool) → (times m q ≡ 0) ⊎ (2 ^ n ≤ times m q)
unfolding times
multiples n m degree [] = inl refl
multiples n m degree (c ∷ q) = step c (multiples n m degree q)
  where
    step : (d : Bool) → (times m q ≡ 0) ⊎ (2 ^ n ≤ times m q)
        → (bit_xor (if d then m else 0) (2 * times m q) ≡ 0) ⊎
        (2 ^ n ≤ bit_xor (if d then m else 0) (2 * times m q))
    step false (inl none) = inl (ap (λ (x : ℕ). 2 * x) none)
    step true (inl none) = inr (subst (λ (x : ℕ). 2 ^ n ≤ x)
        (sym (ap (λ (x : ℕ). bit_xor m (2 * x)) none ∙ xor_zero_r m)) degree.leads)
    step false (inr long) = inr (omega arith)
    step true (inr long) =
        let power : 2 ^ (n + 1) ≡ 2 ^ n * 2 = pow_more 2 n in
        let high : 2 ^ (n + 1) ≤ 2 * times m q = omega arith in
        let kept : 2 ^ (n + 1) ≤ bit_xor m (2 * times m q)
        = xor_high (n + 1) m (2 * times m q) degree.below high in
        inr (omega arith)

-- ---- congruence

-- a and b differ by a multiple of m
pub record IsCongruent (m a b : ℕ) : Type 0 where
  pub multiple : (q : List Bool) × (a ≡ bit_xor (times m q) b)

pub congruent_self : (m a : ℕ) → IsCongruent m a a
unfolding times
congruent_self m a = record { multiple = ([], refl) }

pub congruent_sum : (m a b c d : ℕ) → IsCongruent m a b → IsCongruent m c d
    → IsCongruent m (bit_xor a c) (bit_xor b d)
congruent_sum m a b c d first second =
    let q = first.multiple.0 in
    let p = second.multiple.0 in
    let same : bit_xor a c ≡ bit_xor (times m (added q p)) (bit_xor b d)
    = ap₂ bit_xor first.multiple.1 second.multiple.1
    ∙ xor_middle (times m q) b (times m p) d
    ∙ ap (λ (x : ℕ). bit_xor x (bit_xor b d)) (sym (times-added m q p)) in
    record { multiple = (added q p, same) }

pub congruent_double : (m a b : ℕ) → IsCongruent m a b → IsCongruent m (2 * a) (2 * b)
unfolding times
congruent_double m a b near =
    let q = near.multiple.0 in
    record { multiple = (false ∷ q, ap (λ (x : ℕ). 2 * x) near.multiple.1 ∙ double_xor (times m q) b) }

pub congruent_multiple : (m : ℕ) (q : List Bool) → IsCongruent m (times m q) 0
congruent_multiple m q = record { multiple = (q, sym (xor_zero_r (times m q))) }

pub congruent_itself : (m : ℕ) → IsCongruent m m 0
unfolding times
congruent_itself m = record { multiple = (true ∷ [], sym (xor_zero_r (bit_xor m 0) ∙ xor_zero_r m)) }

pub congruent_back : (m a b : ℕ) → IsCongruent m a b → IsCongruent m b a
congruent_back m a b near = record {
  multiple
      = (near.multiple.0, xor_move a (times m near.multiple.0) b near.multiple.1);
}

pub congruent_chain : (m a b c : ℕ) → IsCongruent m a b → IsCongruent m b c → IsCongruent m a c
congruent_chain m a b c first second =
    let q = first.multiple.0 in
    let p = second.multiple.0 in
    let same : a ≡ bit_xor (times m (added q p)) c
    = first.multiple.1
    ∙ ap (bit_xor (times m q)) second.multiple.1
    ∙ sym (xor_assoc (times m q) (times m p) c)
    ∙ ap (λ (x : ℕ). bit_xor x c) (sym (times-added m q p)) in
    record { multiple = (added q p, same) }

-- a multiple of m may be added
pub congruent_reduced : (n m a : ℕ) → IsCongruent m a (reduced n m a)
congruent_reduced n m a = cond_both (nat_lt a (2 ^ n)) a (bit_xor a m) (IsCongruent m a)
    (λ e. congruent_self m a)
    (λ e. subst (λ (x : ℕ). IsCongruent m x (bit_xor a m)) (xor_zero_r a)
    (congruent_sum m a a 0 m (congruent_self m a) (congruent_back m m 0 (congruent_itself m))))

pub reduced_below : (n m a : ℕ) → IsOfDegree n m → a < 2 ^ (n + 1) → reduced n m a < 2 ^ n
reduced_below n m a degree below = cond_both (nat_lt a (2 ^ n)) a (bit_xor a m) (λ x. x < 2 ^ n)
    (λ e. ltb-true a (2 ^ n) e)
    (λ e. xor_leading n a m (ltb-false a (2 ^ n) e) below degree.leads degree.below)

-- the two cases of `reduced`, on n bits: if a has no x^n, and if it has
pub reduced_low : (n m a : ℕ) → a < 2 ^ n → reduced n m a ≡ a
reduced_low n m a below = cond-true (nat_lt a (2 ^ n)) a (bit_xor a m) (lt-ltb a (2 ^ n) below)

pub reduced_high : (n m a : ℕ) → IsOfDegree n m → 2 ^ n ≤ a → a < 2 ^ (n + 1)
    → reduced n m a ≡ bit_xor (a % 2 ^ n) (m % 2 ^ n)
reduced_high n m a degree leads below =
    let small : bit_xor a m < 2 ^ n = xor_leading n a m leads below degree.leads degree.below in
    cond-false (nat_lt a (2 ^ n)) a (bit_xor a m) (le-ltb a (2 ^ n) leads)
    ∙ sym (mod-eq_of_lt small)
    ∙ xor_mod a m n

-- ---- remainders

pub remainder_from_congruent : (n m a r : ℕ) → IsCongruent m a r → r < 2 ^ n → IsRemainder n m a r
remainder_from_congruent n m a r near small = record { below = small; divides = near.multiple }

pub congruent_from_remainder : (n m a r : ℕ) → IsRemainder n m a r → IsCongruent m a r
congruent_from_remainder n m a r is = record { multiple = is.divides }

-- the remainder of a, from what a is congruent to and has a degree up to n
pub IsRemainder-reduced : (n m a s : ℕ) → IsOfDegree n m → IsCongruent m a s → s < 2 ^ (n + 1)
    → IsRemainder n m a (reduced n m s)
IsRemainder-reduced n m a s degree near below =
    remainder_from_congruent n m a (reduced n m s)
    (congruent_chain m a s (reduced n m s) near (congruent_reduced n m s))
    (reduced_below n m s degree below)

-- a remainder is what no other number is
pub same_remainder : (n m a r s : ℕ) → IsOfDegree n m → IsRemainder n m a r → IsRemainder n m a s
    → r ≡ s
same_remainder n m a r s degree first second =
    let near = congruent_chain m r a s
    (congruent_back m a r (congruent_from_remainder n m a r first))
    (congruent_from_remainder n m a s second) in
    let q = near.multiple.0 in
    let whole : times m q ≡ bit_xor r s
    = sym (xor_cancel (times m q) s) ∙ ap (λ (x : ℕ). bit_xor x s) (sym near.multiple.1) in
    let small : times m q < 2 ^ n
    = subst (λ (x : ℕ). x < 2 ^ n) (sym whole) (xor_lt n r s first.below second.below) in
    same_from_zero_xor r s (sym whole ∙ ⊎_elim {C = times m q ≡ 0}
    (λ none. none)
    (λ long. absurd (not-le_of_lt small long))
    (multiples n m degree q))

pub bit_below : (c : Bool) → (if c then 1 else 0) < 2
bit_below true = omega arith
bit_below false = omega arith

-- the lowest bit below twice a number of n bits
pub joined_bit_below : (n r : ℕ) (c : Bool) → r < 2 ^ n → (if c then 1 else 0) + 2 * r < 2 ^ (n + 1)
joined_bit_below n r c below = omega (arith, bit_below c, pow_more 2 n)

congruent_bit : (m a b : ℕ) (c : Bool) → IsCongruent m a b
    → IsCongruent m ((if c then 1 else 0) + 2 * a) ((if c then 1 else 0) + 2 * b)
congruent_bit m a b c near =
    let bit : ℕ = if c then 1 else 0 in
    subst (λ (x : ℕ). IsCongruent m x (bit + 2 * b)) (xor_bit bit a (bit_below c))
    (subst (λ (x : ℕ). IsCongruent m (bit_xor bit (2 * a)) x) (xor_bit bit b (bit_below c))
    (congruent_sum m bit bit (2 * a) (2 * b) (congruent_self m bit) (congruent_double m a b near)))

-- `remainder` is what division leaves
pub IsRemainder-remainder : (n m : ℕ) (cs : List Bool) → IsOfDegree n m
    → IsRemainder n m (number cs) (remainder n m cs)
unfolding number remainder
IsRemainder-remainder n m [] degree = remainder_from_congruent n m 0 0 (congruent_self m 0) (pow_pos n)
IsRemainder-remainder n m (c ∷ cs) degree =
    let rest = IsRemainder-remainder n m cs degree in
    IsRemainder-reduced n m ((if c then 1 else 0) + 2 * number cs)
    ((if c then 1 else 0) + 2 * remainder n m cs) degree
    (congruent_bit m (number cs) (remainder n m cs) c
    (congruent_from_remainder n m (number cs) (remainder n m cs) rest))
    (joined_bit_below n (remainder n m cs) c rest.below)

pub remainder_below : (n m : ℕ) (cs : List Bool) → IsOfDegree n m → remainder n m cs < 2 ^ n
remainder_below n m cs degree = (IsRemainder-remainder n m cs degree).below

-- ---- numbers and their coefficients

parity : (p : ℕ) → (if p % 2 == 1 then 1 else 0) ≡ p % 2
parity p = grind (arith, nat_tests)

-- the coefficients below a degree that p does not reach are all of p
pub number-coefficients : (k p : ℕ) → p < 2 ^ k → number (coefficients k p) ≡ p
unfolding number coefficients
number-coefficients zero p below = omega arith
number-coefficients (suc k) p below =
    let power : 2 ^ suc k ≡ 2 ^ k * 2 = pow-suc 2 k in
    let half : p / 2 < 2 ^ k = omega arith in
    let rest : number (coefficients k (p / 2)) ≡ p / 2 = number-coefficients k (p / 2) half in
    omega (arith, parity p)

pub length-coefficients : (k p : ℕ) → length (coefficients k p) ≡ k
unfolding coefficients
length-coefficients zero p = refl
length-coefficients (suc k) p = ap suc (length-coefficients k (p / 2))

term_below : (k p : ℕ) (c : Bool) → p < 2 ^ k → (if c then p else 0) < 2 ^ k
term_below k p true below = below
term_below k p false below = pow_pos k

-- degrees add up
pub times_below : (k p : ℕ) (cs : List Bool) → p < 2 ^ k → times p cs < 2 ^ (k + length cs)
unfolding times
times_below k p [] below = pow_pos (k + 0)
times_below k p (c ∷ cs) below =
    let rest : times p cs < 2 ^ (k + length cs) = times_below k p cs below in
    let power : 2 ^ (k + suc (length cs)) ≡ 2 ^ (k + length cs) * 2
    = ap (λ (x : ℕ). 2 ^ x) (omega arith) ∙ pow-suc 2 (k + length cs) in
    let grows : 2 ^ k ≤ 2 ^ (k + suc (length cs)) = pow_mono (omega arith) in
    let first : (if c then p else 0) < 2 ^ k = term_below k p c below in
    let high : 2 * times p cs < 2 ^ (k + suc (length cs)) = omega arith in
    xor_lt (k + suc (length cs)) (if c then p else 0) (2 * times p cs) (omega arith) high

pub times-coefficients_below : (n a b : ℕ) → a < 2 ^ n → times a (coefficients n b) < 2 ^ (n + n)
times-coefficients_below n a b below =
    subst (λ (x : ℕ). times a (coefficients n b) < 2 ^ (n + x)) (length-coefficients n b)
    (times_below n a (coefficients n b) below)

-- ---- the product modulo m

-- the product is the remainder of the product of polynomials
pub IsRemainder-product : (n m a b : ℕ) → IsOfDegree n m → a < 2 ^ n
    → IsRemainder n m (times a (coefficients n b)) (product n m a b)
unfolding product
IsRemainder-product n m a b degree below =
    subst (λ (x : ℕ). IsRemainder n m x (product n m a b))
    (number-coefficients (n + n) (times a (coefficients n b)) (times-coefficients_below n a b below))
    (IsRemainder-remainder n m (coefficients (n + n) (times a (coefficients n b))) degree)

pub product_below : (n m a b : ℕ) → IsOfDegree n m → product n m a b < 2 ^ n
unfolding product
product_below n m a b degree = remainder_below n m
    (coefficients (n + n) (times a (coefficients n b))) degree

-- and nothing else is
pub product_alone : (n m a b r : ℕ) → IsOfDegree n m → a < 2 ^ n
    → IsRemainder n m (times a (coefficients n b)) r → product n m a b ≡ r
product_alone n m a b r degree below is =
    same_remainder n m (times a (coefficients n b)) (product n m a b) r degree
    (IsRemainder-product n m a b degree below) is
