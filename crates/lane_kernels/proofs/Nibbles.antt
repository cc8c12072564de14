-- Nibbles by their four bits, each of which stands for its power of two.
use Rattle.std.proofs.Common.{◌≡◌, ◌<◌, ◌+◌, ◌*◌, ℕ, true, refl, arith}
use Rattle.std.specs.Int.{bit_at}
use Rattle.vc_base.proofs.EachNumber.{agree_below, agree_at}

abbrev pub of_four : ℕ → ℕ → ℕ → ℕ → ℕ
of_four a b c d = a + 2 * b + 4 * c + 8 * d

computed : agree_below (λ n. of_four (bit_at n 0) (bit_at n 1) (bit_at n 2) (bit_at n 3)) (λ n. n)
    16 ≡ true
unfolding agree_below
computed = refl

-- a nibble is the sum of its four bits, each times its power of two
pub nibble_of_bits : (n : ℕ) → n < 16 → of_four (bit_at n 0) (bit_at n 1) (bit_at n 2) (bit_at n 3)
    ≡ n
nibble_of_bits n below =
    agree_at (λ n. of_four (bit_at n 0) (bit_at n 1) (bit_at n 2) (bit_at n 3)) (λ n. n) 16 computed
    n below

-- and its bits are those that it is made of
pub record HasBits (n a b c d : ℕ) : Type 0 where
  pub place_0 : bit_at n 0 ≡ a
  pub place_1 : bit_at n 1 ≡ b
  pub place_2 : bit_at n 2 ≡ c
  pub place_3 : bit_at n 3 ≡ d

pub bits_of_nibble : (a b c d : ℕ) → a < 2 → b < 2 → c < 2 → d < 2
    → HasBits (of_four a b c d) a b c d
bits_of_nibble a b c d a_bit b_bit c_bit d_bit =
    record {
      place_0 = omega arith;
      place_1 = omega arith;
      place_2 = omega arith;
      place_3 = omega arith;
    }

pub of_four-below : (a b c d : ℕ) → a < 2 → b < 2 → c < 2 → d < 2 → of_four a b c d < 16
of_four-below a b c d a_bit b_bit c_bit d_bit = omega arith
