-- The product modulo m, as code computes it.
--
-- HasRead n m a b i r      r is the product of a by the coefficients of b from x^i on, as a loop keeps it
-- horner top m a k b       the product of a by k coefficients of b, in few steps: for checks by computing
--
-- Each product here is the only remainder of one product of polynomials, so it is enough to show that the
-- other side is a remainder of it too, by steps of `IsCongruent`.
use Rattle.std.proofs.Common.{◌≡◌, ◌<◌, ◌≤◌, ℕ, zero, suc, ◌+◌, ◌-◌, ◌*◌, ◌/◌, ◌%◌, ◌^◌, ◌==◌, nat_lt, bit_and, bit_xor, ◌≢◌, Bool, true, false, if◌then◌else◌, List, [], ◌∷◌, refl, sym, ap, ap₂, ◌∙◌, subst, arith, pow_pos, pow-suc, div-one}
use Rattle.std.proofs.lemmas.Bool.Decides.{nat_tests}
use Rattle.std.proofs.lemmas.Grind.{pow_more}
use Rattle.std.proofs.lemmas.Nat.Bits.{shr_and_one}
use Rattle.std.proofs.lemmas.Nat.{shr-shr, xor_shr, xor_mod, pow_below}
use lib.Bits.{xor_comm, xor_zero_r, xor_lt}
use Rattle.vc_base.specs.Polynomial.{IsOfDegree, number, coefficients, times, IsRemainder, reduced, remainder, product}
use Rattle.vc_base.proofs.Xor.{double_xor, xor_bit}
use Rattle.vc_base.proofs.Remainders.{differs, added, times-added, times-xor, times-zero, IsCongruent, congruent_self, congruent_sum, congruent_double, congruent_chain, remainder_from_congruent, congruent_from_remainder, IsRemainder-reduced, same_remainder, bit_below, number-coefficients, IsRemainder-product, product_alone, product_below}

-- ---- one step of Horner's rule

doubled_below : (n r : ℕ) → r < 2 ^ n → 2 * r < 2 ^ (n + 1)
doubled_below n r below = omega (arith, pow_more 2 n)

term_below : (n a : ℕ) (c : Bool) → a < 2 ^ n → (if c then a else 0) < 2 ^ n
term_below n a true below = below
term_below n a false below = pow_pos n

-- times x
pub IsRemainder-double : (n m a r : ℕ) → IsOfDegree n m → IsRemainder n m a r
    → IsRemainder n m (2 * a) (reduced n m (2 * r))
IsRemainder-double n m a r degree is =
    IsRemainder-reduced n m (2 * a) (2 * r) degree
    (congruent_double m a r (congruent_from_remainder n m a r is))
    (doubled_below n r is.below)

-- the remainder of a sum
pub IsRemainder-sum : (n m a b r s : ℕ) → IsRemainder n m a r → IsRemainder n m b s
    → IsRemainder n m (bit_xor a b) (bit_xor r s)
IsRemainder-sum n m a b r s first second =
    remainder_from_congruent n m (bit_xor a b) (bit_xor r s)
    (congruent_sum m a r b s (congruent_from_remainder n m a r first)
    (congruent_from_remainder n m b s second))
    (xor_lt n r s first.below second.below)

-- what has a degree below n is its own remainder
pub IsRemainder-small : (n m a : ℕ) → a < 2 ^ n → IsRemainder n m a a
IsRemainder-small n m a below = remainder_from_congruent n m a a (congruent_self m a) below

-- one more coefficient, below those that were read
pub horner_step : (n m a k b r : ℕ) → IsOfDegree n m → a < 2 ^ n
    → IsRemainder n m (times a (coefficients k (b / 2))) r
    → IsRemainder n m (times a (coefficients (suc k) b))
    (bit_xor (reduced n m (2 * r)) (if b % 2 == 1 then a else 0))
unfolding times coefficients
horner_step n m a k b r degree below is =
    let term : ℕ = if b % 2 == 1 then a else 0 in
    let rest : ℕ = times a (coefficients k (b / 2)) in
    subst (λ (x : ℕ). IsRemainder n m x (bit_xor (reduced n m (2 * r)) term)) (xor_comm (2 * rest) term)
    (IsRemainder-sum n m (2 * rest) term (reduced n m (2 * r)) term
    (IsRemainder-double n m rest r degree is)
    (IsRemainder-small n m term (term_below n a (b % 2 == 1) below)))

-- ---- a loop from the highest bit of b down

pub record HasRead (n m a b i r : ℕ) : Type 0 where
  pub remains : IsRemainder n m (times a (coefficients (n - i) (b / 2 ^ i))) r

pub read_none : (n m a b : ℕ) → HasRead n m a b n 0
unfolding times coefficients
read_none n m a b =
    let none : 0 ≡ n - n = omega arith in
    record {
      remains = subst (λ (k : ℕ). IsRemainder n m
          (times a (coefficients k (b / 2 ^ n))) 0) none (IsRemainder-small n m 0 (pow_pos n));
    }

pub read_more : (n m a b i r : ℕ) → IsOfDegree n m → a < 2 ^ n → i < n → HasRead n m a b (i + 1) r
    → HasRead n m a b i (bit_xor (reduced n m (2 * r)) (if b / 2 ^ i % 2 == 1 then a else 0))
read_more n m a b i r degree below inside so_far =
    let next : ℕ = bit_xor (reduced n m (2 * r)) (if b / 2 ^ i % 2 == 1 then a else 0) in
    let count : suc (n - (i + 1)) ≡ n - i = omega arith in
    let shifted : b / 2 ^ (i + 1) ≡ b / 2 ^ i / 2 = sym (shr-shr b i 1) in
    let before : IsRemainder n m (times a (coefficients (n - (i + 1)) (b / 2 ^ i / 2))) r
    = subst (λ (x : ℕ). IsRemainder n m
    (times a (coefficients (n - (i + 1)) x)) r) shifted so_far.remains in
    record {
      remains = subst (λ (k : ℕ). IsRemainder n m (times a (coefficients k (b / 2 ^ i))) next) count
          (horner_step n m a (n - (i + 1)) (b / 2 ^ i) r degree below before);
    }

-- the same step of a loop that counts i down before it reads
pub read_down : (n m a b i r : ℕ) → IsOfDegree n m → a < 2 ^ n → 0 < i → i ≤ n → HasRead n m a b i r
    → HasRead n m a b (i - 1) (bit_xor (reduced n m (2 * r))
    (if b / 2 ^ (i - 1) % 2 == 1 then a else 0))
read_down n m a b i r degree below some inside so_far =
    let count : i ≡ i - 1 + 1 = omega arith in
    read_more n m a b (i - 1) r degree below (omega arith)
    (subst (λ (j : ℕ). HasRead n m a b j r) count so_far)

term_tested : (a bit term : ℕ) → (bit ≡ 1 → term ≡ a) → (bit ≢ 1 → term ≡ 0)
    → (if bit == 1 then a else 0) ≡ term
term_tested a bit term one none = grind (arith, nat_tests)

-- that step as code says it: `twice` is r times x, and `term` is a if `(b >> i) & 1 == 1`, else 0
pub read_tested : (n m a b i r twice term : ℕ) → IsOfDegree n m → a < 2 ^ n → 0 < i → i ≤ n
    → HasRead n m a b i r
    → twice ≡ reduced n m (2 * r)
    → (bit_and (b / 2 ^ (i - 1)) 1 ≡ 1 → term ≡ a)
    → (bit_and (b / 2 ^ (i - 1)) 1 ≢ 1 → term ≡ 0)
    → HasRead n m a b (i - 1) (bit_xor twice term)
read_tested n m a b i r twice term degree below some inside so_far doubled one none =
    let same : bit_and (b / 2 ^ (i - 1)) 1 ≡ b / 2 ^ (i - 1) % 2 = shr_and_one b (i - 1) in
    subst (HasRead n m a b (i - 1))
    (ap₂ bit_xor (sym doubled)
    (term_tested a (b / 2 ^ (i - 1) % 2) term (λ e. one (same ∙ e))
    (λ e. none (λ f. e (sym same ∙ f)))))
    (read_down n m a b i r degree below some inside so_far)

pub read_all : (n m a b r : ℕ) → IsOfDegree n m → a < 2 ^ n → HasRead n m a b 0 r
    → r ≡ product n m a b
read_all n m a b r degree below so_far =
    let count : n - 0 ≡ n = omega arith in
    sym (product_alone n m a b r degree below
    (subst (λ (x : ℕ). IsRemainder n m (times a (coefficients n x)) r) (div-one b)
    (subst (λ (k : ℕ). IsRemainder n m (times a (coefficients k (b / 2 ^ 0))) r) count so_far.remains)))

-- ---- a twin that computes fast

-- `top` is 2^n, so that it isn't computed anew at each step. As in `elim`, only the branch that is taken is computed.
unfoldable pub horner : ℕ → ℕ → ℕ → ℕ → ℕ → ℕ
horner top m a zero b = 0
horner top m a (suc k) b =
    let twice = 2 * horner top m a k (b / 2) in
    let rest = if nat_lt twice top then twice else bit_xor twice m in
    elim (b % 2) [ zero ↦ rest | suc x ↦ bit_xor rest a ]

last_term : (rest a x : ℕ) → x < 2
    → bit_xor rest (if x == 1 then a else 0) ≡ elim x [ zero ↦ rest | suc y ↦ bit_xor rest a ]
last_term rest a zero below = xor_zero_r rest
last_term rest a (suc zero) below = refl
last_term rest a (suc (suc x)) below = absurd (omega arith)

IsRemainder-horner : (n m a k b : ℕ) → IsOfDegree n m → a < 2 ^ n
    → IsRemainder n m (times a (coefficients k b)) (horner (2 ^ n) m a k b)
unfolding horner
IsRemainder-horner n m a zero b degree below
    = unfold times coefficients in IsRemainder-small n m 0 (pow_pos n)
IsRemainder-horner n m a (suc k) b degree below =
    let before : ℕ = horner (2 ^ n) m a k (b / 2) in
    let bit : b % 2 < 2 = omega arith in
    subst (IsRemainder n m (times a (coefficients (suc k) b)))
    (last_term (reduced n m (2 * before)) a (b % 2) bit)
    (horner_step n m a k b before degree below (IsRemainder-horner n m a k (b / 2) degree below))

pub product-horner : (n m a b : ℕ) → IsOfDegree n m → a < 2 ^ n
    → product n m a b ≡ horner (2 ^ n) m a n b
product-horner n m a b degree below
    = product_alone n m a b (horner (2 ^ n) m a n b) degree below
    (IsRemainder-horner n m a n b degree below)

-- ---- linear in each factor

pub product_zero_first : (n m c : ℕ) → IsOfDegree n m → product n m 0 c ≡ 0
product_zero_first n m c degree =
    product_alone n m 0 c 0 degree (pow_pos n)
    (subst (λ (x : ℕ). IsRemainder n m x 0) (sym (times-zero (coefficients n c)))
    (IsRemainder-small n m 0 (pow_pos n)))

pub product_xor_first : (n m a b c : ℕ) → IsOfDegree n m → a < 2 ^ n → b < 2 ^ n
    → product n m (bit_xor a b) c ≡ bit_xor (product n m a c) (product n m b c)
product_xor_first n m a b c degree below_a below_b =
    product_alone n m (bit_xor a b) c (bit_xor (product n m a c) (product n m b c)) degree
    (xor_lt n a b below_a below_b)
    (subst (λ (x : ℕ). IsRemainder n m x (bit_xor (product n m a c) (product n m b c)))
    (sym (times-xor a b (coefficients n c)))
    (IsRemainder-sum n m (times a (coefficients n c)) (times b (coefficients n c))
    (product n m a c) (product n m b c)
    (IsRemainder-product n m a c degree below_a)
    (IsRemainder-product n m b c degree below_b)))

odd_differs : (x y : ℕ) → x < 2 → y < 2 → (bit_xor x y == 1) ≡ differs (x == 1) (y == 1)
odd_differs zero y below_x below_y = refl
odd_differs (suc zero) zero below_x below_y = refl
odd_differs (suc zero) (suc zero) below_x below_y = refl
odd_differs (suc zero) (suc (suc y)) below_x below_y = absurd (omega arith)
odd_differs (suc (suc x)) y below_x below_y = absurd (omega arith)

pub coefficients-xor : (k a b : ℕ)
    → coefficients k (bit_xor a b) ≡ added (coefficients k a) (coefficients k b)
unfolding coefficients
coefficients-xor zero a b = refl
coefficients-xor (suc k) a b =
    let lowest_a : a % 2 < 2 = omega arith in
    let lowest_b : b % 2 < 2 = omega arith in
    ap₂ ◌∷◌
    (ap (λ (x : ℕ). x == 1) (xor_mod a b 1) ∙ odd_differs (a % 2) (b % 2) lowest_a lowest_b)
    (ap (coefficients k) (xor_shr a b 1) ∙ coefficients-xor k (a / 2) (b / 2))

pub product_xor_second : (n m a b c : ℕ) → IsOfDegree n m → a < 2 ^ n
    → product n m a (bit_xor b c) ≡ bit_xor (product n m a b) (product n m a c)
product_xor_second n m a b c degree below =
    let apart : times a (coefficients n (bit_xor b c)) ≡ bit_xor (times a (coefficients n b))
    (times a (coefficients n c))
    = ap (times a) (coefficients-xor n b c) ∙ times-added a (coefficients n b) (coefficients n c) in
    product_alone n m a (bit_xor b c) (bit_xor (product n m a b) (product n m a c)) degree below
    (subst (λ (x : ℕ). IsRemainder n m x (bit_xor (product n m a b) (product n m a c))) (sym apart)
    (IsRemainder-sum n m (times a (coefficients n b)) (times a (coefficients n c))
    (product n m a b) (product n m a c)
    (IsRemainder-product n m a b degree below)
    (IsRemainder-product n m a c degree below)))

-- ---- by 0, by 1 and by x

pub times_no_coefficients : (k a : ℕ) → times a (coefficients k 0) ≡ 0
unfolding times coefficients
times_no_coefficients zero a = refl
times_no_coefficients (suc k) a = ap (λ (x : ℕ). 2 * x) (times_no_coefficients k a)

pub product_zero_second : (n m a : ℕ) → IsOfDegree n m → a < 2 ^ n → product n m a 0 ≡ 0
product_zero_second n m a degree below =
    product_alone n m a 0 0 degree below
    (subst (λ (x : ℕ). IsRemainder n m x 0) (sym (times_no_coefficients n a))
    (IsRemainder-small n m 0 (pow_pos n)))

times_one_coefficient : (k a : ℕ) → times a (coefficients (suc k) 1) ≡ a
unfolding times coefficients
times_one_coefficient k a = ap (λ (x : ℕ). bit_xor a (2 * x)) (times_no_coefficients k a) ∙ xor_zero_r a

pub product_one : (n m a : ℕ) → 0 < n → IsOfDegree n m → a < 2 ^ n → product n m a 1 ≡ a
product_one zero m a some degree below = absurd (omega arith)
product_one (suc k) m a some degree below =
    product_alone (suc k) m a 1 a degree below
    (subst (λ (x : ℕ). IsRemainder (suc k) m x a) (sym (times_one_coefficient k a))
    (IsRemainder-small (suc k) m a below))

-- coefficients past the last that is not 0 add nothing
times_more_coefficients : (k a b : ℕ) → b < 2 ^ k
    → times a (coefficients (suc k) b) ≡ times a (coefficients k b)
unfolding times coefficients
times_more_coefficients zero a b below =
    let none : b ≡ 0 = omega arith in
    ap (λ (x : ℕ). bit_xor (if x % 2 == 1 then a else 0) 0) none
times_more_coefficients (suc k) a b below =
    let power : 2 ^ suc k ≡ 2 ^ k * 2 = pow-suc 2 k in
    let half : b / 2 < 2 ^ k = omega arith in
    ap (λ (x : ℕ). bit_xor (if b % 2 == 1 then a else 0) (2 * x))
    (times_more_coefficients k a (b / 2) half)

doubled_even : (b : ℕ) → (2 * b % 2 == 1) ≡ false
doubled_even b = let even : 2 * b % 2 ≡ 0 = omega arith in ap (λ (x : ℕ). x == 1) even

times_doubled : (k a b : ℕ) → 2 * b < 2 ^ k
    → times a (coefficients k (2 * b)) ≡ 2 * times a (coefficients k b)
unfolding times coefficients
times_doubled zero a b below = refl
times_doubled (suc k) a b below =
    let power : 2 ^ suc k ≡ 2 ^ k * 2 = pow-suc 2 k in
    let half : 2 * b / 2 ≡ b = omega arith in
    let small : b < 2 ^ k = omega arith in
    ap₂ (λ (c : Bool) (x : ℕ). bit_xor (if c then a else 0) (2 * times a (coefficients k x)))
    (doubled_even b) half
    ∙ ap (λ (x : ℕ). 2 * x) (sym (times_more_coefficients k a b small))

-- times x
pub product_double : (n m a b : ℕ) → IsOfDegree n m → a < 2 ^ n → 2 * b < 2 ^ n
    → product n m a (2 * b) ≡ reduced n m (2 * product n m a b)
product_double n m a b degree below inside =
    product_alone n m a (2 * b) (reduced n m (2 * product n m a b)) degree below
    (subst (λ (x : ℕ). IsRemainder n m x (reduced n m (2 * product n m a b)))
    (sym (times_doubled n a b inside))
    (IsRemainder-double n m (times a (coefficients n b)) (product n m a b) degree
    (IsRemainder-product n m a b degree below)))

-- times one more power of x
pub product_pow : (n m a j : ℕ) → IsOfDegree n m → a < 2 ^ n → j + 1 < n
    → product n m a (2 ^ (j + 1)) ≡ reduced n m (2 * product n m a (2 ^ j))
product_pow n m a j degree below inside =
    let power : 2 ^ (j + 1) ≡ 2 * 2 ^ j = omega (arith, pow_more 2 j) in
    let small : 2 ^ (j + 1) < 2 ^ n = pow_below (j + 1) n inside in
    ap (product n m a) power ∙ product_double n m a (2 ^ j) degree below
    (subst (λ (x : ℕ). x < 2 ^ n) power small)

-- ---- the factors may change places

pub times_one : (cs : List Bool) → times 1 cs ≡ number cs
unfolding times number
times_one [] = refl
times_one (c ∷ cs) = xor_bit (if c then 1 else 0) (times 1 cs) (bit_below c)
    ∙ ap (λ (x : ℕ). (if c then 1 else 0) + 2 * x) (times_one cs)

pub times-double : (p : ℕ) (cs : List Bool) → times (2 * p) cs ≡ 2 * times p cs
unfolding times
times-double p [] = refl
times-double p (true ∷ cs) = ap (λ (x : ℕ). bit_xor (2 * p) (2 * x)) (times-double p cs)
    ∙ sym (double_xor p (2 * times p cs))
times-double p (false ∷ cs) = ap (λ (x : ℕ). 2 * x) (times-double p cs)

times_bit : (c : Bool) (cs : List Bool)
    → times (if c then 1 else 0) cs ≡ (if c then number cs else 0)
times_bit true cs = times_one cs
times_bit false cs = times-zero cs

pub times_turned : (ps qs : List Bool) → times (number ps) qs ≡ times (number qs) ps
unfolding times number
times_turned [] qs = times-zero qs
times_turned (c ∷ ps) qs =
    let bit : ℕ = if c then 1 else 0 in
    ap (λ (x : ℕ). times x qs) (sym (xor_bit bit (number ps) (bit_below c)))
    ∙ times-xor bit (2 * number ps) qs
    ∙ ap₂ bit_xor (times_bit c qs) (times-double (number ps) qs
    ∙ ap (λ (x : ℕ). 2 * x) (times_turned ps qs))

pub product_comm : (n m a b : ℕ) → a < 2 ^ n → b < 2 ^ n → product n m a b ≡ product n m b a
unfolding product
product_comm n m a b below_a below_b =
    let same : times a (coefficients n b) ≡ times b (coefficients n a)
    = ap (λ (x : ℕ). times x (coefficients n b)) (sym (number-coefficients n a below_a))
    ∙ times_turned (coefficients n a) (coefficients n b)
    ∙ ap (λ (x : ℕ). times x (coefficients n a)) (number-coefficients n b below_b) in
    ap (λ (x : ℕ). remainder n m (coefficients (n + n) x)) same

-- ---- three factors

congruent_term : (m a b : ℕ) (c : Bool) → IsCongruent m a b
    → IsCongruent m (if c then a else 0) (if c then b else 0)
congruent_term m a b true near = near
congruent_term m a b false near = congruent_self m 0

pub congruent_times : (m a b : ℕ) (cs : List Bool) → IsCongruent m a b
    → IsCongruent m (times a cs) (times b cs)
unfolding times
congruent_times m a b [] near = congruent_self m 0
congruent_times m a b (c ∷ cs) near =
    congruent_sum m (if c then a else 0) (if c then b else 0) (2 * times a cs) (2 * times b cs)
    (congruent_term m a b c near)
    (congruent_double m (times a cs) (times b cs) (congruent_times m a b cs near))

times_term : (p : ℕ) (c : Bool) (bs : List Bool)
    → times (if c then p else 0) bs ≡ (if c then times p bs else 0)
times_term p true bs = refl
times_term p false bs = times-zero bs

-- the order of two factors is free
pub times-times : (p : ℕ) (bs cs : List Bool) → times (times p bs) cs ≡ times (times p cs) bs
unfolding times
times-times p bs [] = sym (times-zero bs)
times-times p bs (c ∷ cs) =
    let term : ℕ = if c then p else 0 in
    ap₂ bit_xor (sym (times_term p c bs)) (ap (λ (x : ℕ). 2 * x) (times-times p bs cs)
    ∙ sym (times-double (times p cs) bs))
    ∙ sym (times-xor term (2 * times p cs) bs)

IsRemainder-product_of_product : (n m a b c : ℕ) → IsOfDegree n m → a < 2 ^ n
    → IsRemainder n m (times (times a (coefficients n b)) (coefficients n c))
    (product n m (product n m a b) c)
IsRemainder-product_of_product n m a b c degree below =
    let first : ℕ = product n m a b in
    let inside : first < 2 ^ n = product_below n m a b degree in
    let whole : ℕ = times (times a (coefficients n b)) (coefficients n c) in
    remainder_from_congruent n m whole (product n m first c)
    (congruent_chain m whole (times first (coefficients n c)) (product n m first c)
    (congruent_times m (times a (coefficients n b)) first (coefficients n c)
    (congruent_from_remainder n m (times a (coefficients n b)) first
    (IsRemainder-product n m a b degree below)))
    (congruent_from_remainder n m (times first (coefficients n c)) (product n m first c)
    (IsRemainder-product n m first c degree inside)))
    (product_below n m first c degree)

pub product_assoc : (n m a b c : ℕ) → IsOfDegree n m → a < 2 ^ n → b < 2 ^ n
    → product n m (product n m a b) c ≡ product n m a (product n m b c)
product_assoc n m a b c degree below_a below_b =
    let ps : List Bool = coefficients n a in
    let qs : List Bool = coefficients n b in
    let rs : List Bool = coefficients n c in
    let turned : times a qs ≡ times b ps
    = ap (λ (x : ℕ). times x qs) (sym (number-coefficients n a below_a))
    ∙ times_turned ps qs
    ∙ ap (λ (x : ℕ). times x ps) (number-coefficients n b below_b) in
    let same : times (times a qs) rs ≡ times (times b rs) ps
    = ap (λ (x : ℕ). times x rs) turned ∙ times-times b ps rs in
    same_remainder n m (times (times a qs) rs) (product n m (product n m a b) c)
    (product n m (product n m b c) a) degree
    (IsRemainder-product_of_product n m a b c degree below_a)
    (subst (λ (x : ℕ). IsRemainder n m x (product n m (product n m b c) a)) (sym same)
    (IsRemainder-product_of_product n m b c a degree below_b))
    ∙ product_comm n m (product n m b c) a (product_below n m b c degree) below_a
