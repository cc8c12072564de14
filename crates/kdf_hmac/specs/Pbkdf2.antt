-- PBKDF2 (RFC 8018, section 5.2) with HMAC as its pseudorandom function, and the counts of iterations.
-- P is the password, S the salt and c the count of iterations. Lengths are in bytes.
--
-- u prf p s i j               U_j of block i
-- t prf p s c i               T_i: the XOR of U_1 to U_c
-- block_count prf n           l: how many blocks n bytes need
-- pbkdf2_bytes prf p s c n    DK: the first n bytes of T_1, T_2, ..
-- IsPim pim                   a number that a user may give as a PIM; 0 is none
-- iterations_of pim           c, as the user's PIM sets it
-- derived prf p pim s         the 192 bytes that decipher a header
use Rattle.std.specs.Prelude.{◌≤◌, ℕ, zero, suc, ◌+◌, ◌-◌, ◌*◌, ◌/◌, ◌==◌, List, ◌++◌, map, take, replicate, if◌then◌else◌}
use Rattle.std.specs.Int.{w32, to_be_bytes}
use Rattle.std.specs.List.{fold, range_with_len}
use Rattle.vc_base.specs.Bytes.{xor_bytes, joined}
use Rattle.kdf_hmac.specs.declared.prf.Prf.{Prf}
use Rattle.kdf_hmac.specs.Hmac.{hmac_of, output_length}

-- U_1 = PRF(P, S || INT(i)) and U_(j+1) = PRF(P, U_j), where INT(i) is i as four bytes, the highest
-- first. So U_0 is S || INT(i).
unfoldable pub u : Prf → List ℕ → List ℕ → ℕ → ℕ → List ℕ
u prf p s i zero = s ++ to_be_bytes w32 i
u prf p s i (suc j) = hmac_of prf p (u prf p s i j)

unfoldable pub t : Prf → List ℕ → List ℕ → ℕ → ℕ → List ℕ
t prf p s c i =
    fold xor_bytes (replicate (output_length prf) 0) (map (u prf p s i) (range_with_len 1 c))

abbrev pub block_count : Prf → ℕ → ℕ
block_count prf n = (n + output_length prf - 1) / output_length prf

unfoldable pub pbkdf2_bytes : Prf → List ℕ → List ℕ → ℕ → ℕ → List ℕ
pbkdf2_bytes prf p s c n = take n (joined (λ k. t prf p s c (k + 1)) (block_count prf n))

-- the greatest gives the last count below 2^31 (15,000 + 1,000 times the PIM)
abbrev pub greatest_pim : ℕ
greatest_pim = 2147468

abbrev pub IsPim : ℕ → Type 0
IsPim pim = pim ≤ greatest_pim

abbrev pub iterations_of : ℕ → ℕ
iterations_of pim = if pim == 0 then 500000 else 15000 + 1000 * pim

unfoldable pub derived : Prf → List ℕ → ℕ → List ℕ → List ℕ
derived prf p pim s = pbkdf2_bytes prf p s (iterations_of pim) 192
