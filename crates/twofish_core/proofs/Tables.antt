-- The tables of the code have what the permutations and the columns of MDS make of each byte, by
-- computing.
use Rattle.std.proofs.Common.{◌≡◌, ◌<◌, ℕ, true, refl, get_or}
use Rattle.vc_base.specs.Bytes.{from_bytes}
use Rattle.vc_base.specs.Polynomial.{product, times, remainder, coefficients}
use Rattle.twofish_core.specs.Twofish.{permuted, q0, q1}
use Rattle.twofish_core.specs.Laws.Columns.{mds_column}
use Rattle.twofish_core.specs.declared.permutations.TheConstants.{Q0, Q1}
use Rattle.twofish_core.specs.declared.columns.TheConstants.{COLUMN_0, COLUMN_1, COLUMN_2, COLUMN_3}
use Rattle.vc_base.proofs.EachNumber.{agree_below, agree_at}

-- ---- the permutations

computed_q0 : agree_below (λ b. get_or Q0 b 0) q0 256 ≡ true
unfolding agree_below q0 permuted
computed_q0 = refl

pub table_q0 : (b : ℕ) → b < 256 → get_or Q0 b 0 ≡ q0 b
table_q0 b below = agree_at (λ b. get_or Q0 b 0) q0 256 computed_q0 b below

computed_q1 : agree_below (λ b. get_or Q1 b 0) q1 256 ≡ true
unfolding agree_below q1 permuted
computed_q1 = refl

pub table_q1 : (b : ℕ) → b < 256 → get_or Q1 b 0 ≡ q1 b
table_q1 b below = agree_at (λ b. get_or Q1 b 0) q1 256 computed_q1 b below

-- ---- the columns

computed_0 : agree_below (λ b. get_or COLUMN_0 b 0) (λ b. mds_column 0 (q1 b)) 256 ≡ true
unfolding agree_below mds_column q1 permuted product times remainder coefficients from_bytes
computed_0 = refl

pub table_0 : (b : ℕ) → b < 256 → get_or COLUMN_0 b 0 ≡ mds_column 0 (q1 b)
table_0 b below =
    agree_at (λ b. get_or COLUMN_0 b 0) (λ b. mds_column 0 (q1 b)) 256 computed_0 b below

computed_1 : agree_below (λ b. get_or COLUMN_1 b 0) (λ b. mds_column 1 (q0 b)) 256 ≡ true
unfolding agree_below mds_column q0 permuted product times remainder coefficients from_bytes
computed_1 = refl

pub table_1 : (b : ℕ) → b < 256 → get_or COLUMN_1 b 0 ≡ mds_column 1 (q0 b)
table_1 b below =
    agree_at (λ b. get_or COLUMN_1 b 0) (λ b. mds_column 1 (q0 b)) 256 computed_1 b below

computed_2 : agree_below (λ b. get_or COLUMN_2 b 0) (λ b. mds_column 2 (q1 b)) 256 ≡ true
unfolding agree_below mds_column q1 permuted product times remainder coefficients from_bytes
computed_2 = refl

pub table_2 : (b : ℕ) → b < 256 → get_or COLUMN_2 b 0 ≡ mds_column 2 (q1 b)
table_2 b below =
    agree_at (λ b. get_or COLUMN_2 b 0) (λ b. mds_column 2 (q1 b)) 256 computed_2 b below

computed_3 : agree_below (λ b. get_or COLUMN_3 b 0) (λ b. mds_column 3 (q0 b)) 256 ≡ true
unfolding agree_below mds_column q0 permuted product times remainder coefficients from_bytes
computed_3 = refl

pub table_3 : (b : ℕ) → b < 256 → get_or COLUMN_3 b 0 ≡ mds_column 3 (q0 b)
table_3 b below =
    agree_at (λ b. get_or COLUMN_3 b 0) (λ b. mds_column 3 (q0 b)) 256 computed_3 b below
