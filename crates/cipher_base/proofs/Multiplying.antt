-- The product of two bytes from the highest bit of the second down: at each bit what was read so far is
-- multiplied by x, and if the bit is set the first byte is added. Bit 7 - i is read in iteration i.
use Rattle.std.proofs.Common.{◌≡◌, ◌≢◌, ℕ, ◌+◌, ◌-◌, ◌*◌, ◌/◌, ◌^◌, ◌<◌, ◌≤◌, sym, subst, arith}
use Rattle.std.specs.Int.Bits.{bit_xor, bit_and}
use Rattle.vc_base.specs.Polynomial.{IsOfDegree, IsRemainder, coefficients, times, reduced, product}
use Rattle.vc_base.proofs.Products.{HasRead, read_tested, read_all}
use Rattle.vc_base.proofs.Remainders.{IsRemainder-product}
use Rattle.cipher_base.specs.Field.{IsFieldPolynomial}

field_degree : (poly : ℕ) → IsFieldPolynomial poly → IsOfDegree 8 poly
field_degree poly h = record { leads = omega arith; below = omega arith }

pub read_bit : (a b poly i r twice term : ℕ) → IsFieldPolynomial poly → a < 256 → i < 8
    → HasRead 8 poly a b (8 - i) r → twice ≡ reduced 8 poly (2 * r)
    → (bit_and (b / 2 ^ (7 - i)) 1 ≡ 1 → term ≡ a) → (bit_and (b / 2 ^ (7 - i)) 1 ≢ 1 → term ≡ 0)
    → HasRead 8 poly a b (8 - (i + 1)) (bit_xor twice term)
read_bit a b poly i r twice term h small turn so_far doubled one none =
    let place : 8 - i - 1 ≡ 7 - i = omega arith in
    let next : 8 - i - 1 ≡ 8 - (i + 1) = omega arith in
    subst (λ k. HasRead 8 poly a b k (bit_xor twice term)) next
    (read_tested 8 poly a b (8 - i) r twice term (field_degree poly h) small (omega arith) (omega arith) so_far doubled
    (λ e. one (subst (λ k. bit_and (b / 2 ^ k) 1 ≡ 1) place e))
    (λ e. none (subst (λ k. bit_and (b / 2 ^ k) 1 ≢ 1) place e)))

pub read_whole : (a b poly i r : ℕ) → IsFieldPolynomial poly → a < 256 → 8 ≤ i → HasRead 8 poly a b (8 - i) r
    → (r ≡ product 8 poly a b) × IsRemainder 8 poly (times a (coefficients 8 b)) r
read_whole a b poly i r h small past so_far =
    let done : 8 - i ≡ 0 = omega arith in
    let same : r ≡ product 8 poly a b
    = read_all 8 poly a b r (field_degree poly h) small (subst (λ k. HasRead 8 poly a b k r) done so_far) in
    (same, subst (IsRemainder 8 poly (times a (coefficients 8 b))) (sym same) (IsRemainder-product 8 poly a b (field_degree poly h) small))
