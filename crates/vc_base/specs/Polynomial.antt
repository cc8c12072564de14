-- Polynomials over GF(2).
--
-- A polynomial is a number whose bit i is the coefficient of x^i, or the list of its coefficients with
-- the constant term first. The sum of two is their XOR.
--
-- IsOfDegree n m          m has degree n
-- number cs               the polynomial with the coefficients cs, as a number
-- coefficients n p        the coefficients of the first n terms of p
-- times p cs              p times the polynomial with the coefficients cs
-- IsRemainder n m a r     r is the remainder of a by m, which has degree n
-- remainder n m cs        that remainder, of the polynomial with the coefficients cs
-- product n m a b         the product of a and b, below 2^n, modulo m of degree n: the product of GF(2^n)
--                         if m is irreducible
use Rattle.std.specs.Prelude.{◌≡◌, ◌<◌, ◌≤◌, ℕ, zero, suc, ◌+◌, ◌*◌, ◌/◌, ◌%◌, ◌^◌, ◌==◌, nat_lt, Bool, if◌then◌else◌, List, [], ◌∷◌, bit_xor}

pub record IsOfDegree (n m : ℕ) : Type 0 where
  pub leads : 2 ^ n ≤ m
  pub below : m < 2 ^ (n + 1)

unfoldable pub number : List Bool → ℕ
number [] = 0
number (c ∷ cs) = (if c then 1 else 0) + 2 * number cs

unfoldable pub coefficients : ℕ → ℕ → List Bool
coefficients zero p = []
coefficients (suc n) p = (p % 2 == 1) ∷ coefficients n (p / 2)

-- p·(c + x·q) = c·p + x·(p·q)
unfoldable pub times : ℕ → List Bool → ℕ
times p [] = 0
times p (c ∷ cs) = bit_xor (if c then p else 0) (2 * times p cs)

-- a = q·m + r, and r has a degree below n
pub record IsRemainder (n m a r : ℕ) : Type 0 where
  pub below : r < 2 ^ n
  pub divides : (q : List Bool) × (a ≡ bit_xor (times m q) r)

-- a polynomial of a degree up to n, modulo m of degree n
abbrev pub reduced : ℕ → ℕ → ℕ → ℕ
reduced n m a = if nat_lt a (2 ^ n) then a else bit_xor a m

-- The remainder of c + x·q is that of c + x·(the remainder of q).
unfoldable pub remainder : ℕ → ℕ → List Bool → ℕ
remainder n m [] = 0
remainder n m (c ∷ cs) = reduced n m ((if c then 1 else 0) + 2 * remainder n m cs)

unfoldable pub product : ℕ → ℕ → ℕ → ℕ → ℕ
product n m a b = remainder n m (coefficients (n + n) (times a (coefficients n b)))
