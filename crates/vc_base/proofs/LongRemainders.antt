-- Remainders of long polynomials, as a CRC computes them.
--
-- doublings n m k r      r times x^k, reduced after each x
--
-- `remainder` depends on the number alone and is linear. k zeros before the coefficients multiply by x^k,
-- which `doublings` does to the remainder. So a message that grows by k bits, put in at degree n, needs only
-- the remainder so far.
use Rattle.std.proofs.Common.{◌≡◌, ◌<◌, ◌≤◌, ℕ, zero, suc, ◌+◌, ◌-◌, ◌*◌, ◌^◌, bit_xor, Bool, false, List, ◌++◌, replicate, refl, sym, ap, ap₂, ◌∙◌, subst, arith, pow-suc, pow-add, zero-add, one-mul, add-one, suc-add, mul_assoc, mul_comm}
use Rattle.std.proofs.lemmas.Nat.{shl_below}
use Rattle.vc_base.specs.Polynomial.{IsOfDegree, number, IsRemainder, reduced, remainder}
use Rattle.vc_base.proofs.Xor.{pow_xor}
use Rattle.vc_base.proofs.Remainders.{added, times-added, same_remainder, IsRemainder-remainder}
use Rattle.vc_base.proofs.Products.{times_one, IsRemainder-double, IsRemainder-sum, IsRemainder-small}

-- ---- the remainder of a list of coefficients

-- only what division leaves is the remainder
pub remainder_alone : (n m : ℕ) (cs : List Bool) (r : ℕ) → IsOfDegree n m
    → IsRemainder n m (number cs) r → remainder n m cs ≡ r
remainder_alone n m cs r degree is =
    same_remainder n m (number cs) (remainder n m cs) r degree (IsRemainder-remainder n m cs degree) is

-- one polynomial has one remainder, however many coefficients are written
pub remainder_same : (n m : ℕ) (cs ds : List Bool) → IsOfDegree n m → number cs ≡ number ds
    → remainder n m cs ≡ remainder n m ds
remainder_same n m cs ds degree same =
    remainder_alone n m cs (remainder n m ds) degree
    (subst (λ (x : ℕ). IsRemainder n m x (remainder n m ds)) (sym same)
    (IsRemainder-remainder n m ds degree))

-- what has a degree below n is its own remainder
pub remainder_small : (n m : ℕ) (cs : List Bool) → IsOfDegree n m → number cs < 2 ^ n
    → remainder n m cs ≡ number cs
remainder_small n m cs degree below
    = remainder_alone n m cs (number cs) degree (IsRemainder-small n m (number cs) below)

pub number-added : (cs ds : List Bool) → number (added cs ds) ≡ bit_xor (number cs) (number ds)
number-added cs ds = sym (times_one (added cs ds)) ∙ times-added 1 cs ds
    ∙ ap₂ bit_xor (times_one cs) (times_one ds)

-- linear
pub remainder-added : (n m : ℕ) (cs ds : List Bool) → IsOfDegree n m
    → remainder n m (added cs ds) ≡ bit_xor (remainder n m cs) (remainder n m ds)
remainder-added n m cs ds degree =
    remainder_alone n m (added cs ds) (bit_xor (remainder n m cs) (remainder n m ds)) degree
    (subst (λ (x : ℕ). IsRemainder n m x (bit_xor (remainder n m cs) (remainder n m ds)))
    (sym (number-added cs ds))
    (IsRemainder-sum n m (number cs) (number ds) (remainder n m cs) (remainder n m ds)
    (IsRemainder-remainder n m cs degree)
    (IsRemainder-remainder n m ds degree)))

-- ---- times x^k

unfoldable pub doublings : ℕ → ℕ → ℕ → ℕ → ℕ
doublings n m zero r = r
doublings n m (suc k) r = reduced n m (2 * doublings n m k r)

-- the first step of the loop that computes them, and one more
pub doublings_none : (n m r : ℕ) → doublings n m 0 r ≡ r
unfolding doublings
doublings_none n m r = refl

pub doublings_more : (n m k r : ℕ) → doublings n m (k + 1) r ≡ reduced n m (2 * doublings n m k r)
unfolding doublings
doublings_more n m k r = ap (λ (j : ℕ). doublings n m j r) (add-one k)

-- the first x may come first
pub doublings_first : (n m k r : ℕ)
    → doublings n m k (reduced n m (2 * r)) ≡ doublings n m (suc k) r
unfolding doublings
doublings_first n m zero r = refl
doublings_first n m (suc k) r = ap (λ (x : ℕ). reduced n m (2 * x)) (doublings_first n m k r)

pub doublings-add : (n m i k r : ℕ) → doublings n m i (doublings n m k r) ≡ doublings n m (i + k) r
unfolding doublings
doublings-add n m zero k r = ap (λ (j : ℕ). doublings n m j r) (sym (zero-add k))
doublings-add n m (suc i) k r =
    ap (λ (x : ℕ). reduced n m (2 * x)) (doublings-add n m i k r)
    ∙ ap (λ (j : ℕ). doublings n m j r) (sym (suc-add i k))

pub number-zeros : (k : ℕ) (cs : List Bool) → number (replicate k false ++ cs) ≡ 2 ^ k * number cs
unfolding number
number-zeros zero cs = sym (one-mul (number cs))
number-zeros (suc k) cs =
    omega (arith, number-zeros k cs, ap (λ (x : ℕ). x * number cs) (pow-suc 2 k))

-- k zeros before the coefficients
pub remainder-zeros : (n m k : ℕ) (cs : List Bool)
    → remainder n m (replicate k false ++ cs) ≡ doublings n m k (remainder n m cs)
unfolding remainder doublings
remainder-zeros n m zero cs = refl
remainder-zeros n m (suc k) cs =
    ap (reduced n m) (zero-add (2 * remainder n m (replicate k false ++ cs)))
    ∙ ap (λ (x : ℕ). reduced n m (2 * x)) (remainder-zeros n m k cs)

pub IsRemainder-doublings : (n m k a r : ℕ) → IsOfDegree n m → IsRemainder n m a r
    → IsRemainder n m (2 ^ k * a) (doublings n m k r)
unfolding doublings
IsRemainder-doublings n m zero a r degree is
    = subst (λ (x : ℕ). IsRemainder n m x r) (sym (one-mul a)) is
IsRemainder-doublings n m (suc k) a r degree is =
    let power : 2 * (2 ^ k * a) ≡ 2 ^ suc k * a = omega (arith, ap (λ (x : ℕ). x * a) (pow-suc 2 k)) in
    subst (λ (x : ℕ). IsRemainder n m x (reduced n m (2 * doublings n m k r))) power
    (IsRemainder-double n m (2 ^ k * a) (doublings n m k r) degree
    (IsRemainder-doublings n m k a r degree is))

-- ---- a message that grows

-- d·x^k + b·x^n, where b has a degree below k: its k bits enter at the top of the remainder of d
pub IsRemainder-grown : (n m k d b r : ℕ) → IsOfDegree n m → k ≤ n → b < 2 ^ k → IsRemainder n m d r
    → IsRemainder n m (bit_xor (2 ^ k * d) (2 ^ n * b)) (doublings n m k (bit_xor r (2 ^ (n - k) * b)))
IsRemainder-grown n m k d b r degree fits below is =
    let entered : ℕ = 2 ^ (n - k) * b in
    let count : k + (n - k) ≡ n = omega arith in
    let inside : entered < 2 ^ n
    = subst (λ (x : ℕ). x < 2 ^ n) (mul_comm b (2 ^ (n - k)))
    (subst (λ (x : ℕ). b * 2 ^ (n - k) < 2 ^ x) count (shl_below b k (n - k) below)) in
    let top : 2 ^ k * entered ≡ 2 ^ n * b
    = sym (mul_assoc (2 ^ k) (2 ^ (n - k)) b)
    ∙ ap (λ (x : ℕ). x * b) (sym (pow-add 2 k (n - k)) ∙ ap (λ (x : ℕ). 2 ^ x) count) in
    let whole : 2 ^ k * bit_xor d entered ≡ bit_xor (2 ^ k * d) (2 ^ n * b)
    = pow_xor k d entered ∙ ap (bit_xor (2 ^ k * d)) top in
    subst (λ (x : ℕ). IsRemainder n m x (doublings n m k (bit_xor r entered))) whole
    (IsRemainder-doublings n m k (bit_xor d entered) (bit_xor r entered) degree
    (IsRemainder-sum n m d entered r entered is (IsRemainder-small n m entered inside)))
