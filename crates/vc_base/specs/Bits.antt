-- Numbers by their bits, and numbers by a test.
use Rattle.std.specs.Prelude.{ℕ, zero, suc, ◌+◌, ◌*◌, ◌^◌, Bool, if◌then◌else◌}

-- the number whose n lowest bits are f 0, f 1, .., f (n - 1), and whose others are 0
unfoldable pub of_bits : (ℕ → ℕ) → ℕ → ℕ
of_bits f zero = 0
of_bits f (suc n) = f n * 2 ^ n + of_bits f n

-- the number below n that passes a test which at most one passes, or 0 if none does
unfoldable pub number_below : ℕ → (ℕ → Bool) → ℕ
number_below zero test = 0
number_below (suc n) test = if test n then n else number_below n test
