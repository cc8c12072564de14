-- A byte appended to the bytes of a checksum.
--
-- byte_term b   the polynomial of a byte, times x^24
--
-- The dividend is multiplied by x^8, and the byte's polynomial times x^32 is added. Times x^24 the byte's
-- polynomial is reflected into the byte itself, which is compared at each of the 256 by computing.
use Rattle.std.proofs.Common.{◌≡◌, ◌<◌, ℕ, ◌+◌, ◌-◌, ◌*◌, ◌^◌, bit_xor, Bool, true, List, [], ◌∷◌, ◌++◌, length, reverse, refl, sym, ap, ap₂, ◌∙◌, subst, arith, pow_pos}
use Rattle.std.proofs.lemmas.List.{length-reverse, length-append, reverse-append, append-nil, append_assoc}
use Rattle.std.proofs.lemmas.Nat.{pow-add}
use Rattle.std.proofs.Math.Nat.{pow-suc}
use Rattle.std.specs.List.{flat_map}
use lib.Bits.{xor_lt, xor_comm}
use Rattle.vc_base.specs.Polynomial.{number, coefficients}
use Rattle.vc_base.proofs.Xor.{pow_xor, xor_low, xor_right_comm}
use Rattle.vc_base.proofs.Remainders.{length-coefficients}
use Rattle.vc_header.specs.Crc.{message, dividend, reflected}
use Rattle.vc_header.proofs.Reflected.{number_below}
use Rattle.vc_header.proofs.Steps.{agree_below, agree_at}

-- the polynomial of a byte, at x^24
pub byte_term : ℕ → ℕ
byte_term b = 2 ^ 24 * number (reverse (coefficients 8 b))

bytes_agree : agree_below (λ b. reflected (byte_term b)) (λ b. b) 256 ≡ true
unfolding agree_below byte_term number coefficients
bytes_agree = refl

pub reflected_byte : (b : ℕ) → b < 256 → reflected (byte_term b) ≡ b
reflected_byte b below = agree_at (λ c. reflected (byte_term c)) (λ c. c) 256 b bytes_agree below

-- ---- the polynomial of the bytes

append_number : (cs ds : List Bool) → number (cs ++ ds) ≡ number cs + 2 ^ length cs * number ds
unfolding number
append_number [] ds = omega arith
append_number (c ∷ cs) ds =
    let rest : number (cs ++ ds) ≡ number cs + 2 ^ length cs * number ds = append_number cs ds in
    rw (rest, pow-suc 2 (length cs)) (omega arith)

flat_map_push : (bytes : List ℕ) (b : ℕ)
    → flat_map (coefficients 8) (bytes ++ b ∷ []) ≡ flat_map (coefficients 8) bytes ++ coefficients 8 b
flat_map_push [] b = append-nil (coefficients 8 b)
flat_map_push (x ∷ xs) b =
    ap (λ (cs : List Bool). coefficients 8 x ++ cs) (flat_map_push xs b)
    ∙ sym (append_assoc (coefficients 8 x) (flat_map (coefficients 8) xs) (coefficients 8 b))

message_push : (bytes : List ℕ) (b : ℕ)
    → message (bytes ++ b ∷ []) ≡ number (reverse (coefficients 8 b)) + 2 ^ 8 * message bytes
message_push bytes b =
    let cs : List Bool = flat_map (coefficients 8) bytes in
    let count : length (reverse (coefficients 8 b)) ≡ 8
    = length-reverse (coefficients 8 b) ∙ length-coefficients 8 b in
    ap (λ (ds : List Bool). number (reverse ds)) (flat_map_push bytes b)
    ∙ ap number (reverse-append cs (coefficients 8 b))
    ∙ append_number (reverse (coefficients 8 b)) (reverse cs)
    ∙ ap (λ (n : ℕ). number (reverse (coefficients 8 b)) + 2 ^ n * message bytes) count

length_flat_map : (bytes : List ℕ) → length (flat_map (coefficients 8) bytes) ≡ 8 * length bytes
length_flat_map [] = refl
length_flat_map (x ∷ xs) =
    let first : length (coefficients 8 x) ≡ 8 = length-coefficients 8 x in
    let rest : length (flat_map (coefficients 8) xs) ≡ 8 * length xs = length_flat_map xs in
    length-append (coefficients 8 x) (flat_map (coefficients 8) xs) ∙ omega arith

message_below : (bytes : List ℕ) → message bytes < 2 ^ (8 * length bytes)
message_below bytes =
    let cs : List Bool = flat_map (coefficients 8) bytes in
    let count : length (reverse cs) ≡ 8 * length bytes = length-reverse cs ∙ length_flat_map bytes in
    subst (λ (n : ℕ). message bytes < 2 ^ n) count (number_below (reverse cs))

byte_number_below : (b : ℕ) → number (reverse (coefficients 8 b)) < 2 ^ 8
byte_number_below b =
    let count : length (reverse (coefficients 8 b)) ≡ 8
    = length-reverse (coefficients 8 b) ∙ length-coefficients 8 b in
    subst (λ (n : ℕ). number (reverse (coefficients 8 b)) < 2 ^ n) count
    (number_below (reverse (coefficients 8 b)))

pub byte_term_below : (b : ℕ) → byte_term b < 2 ^ 32
unfolding byte_term
byte_term_below b = omega (arith, byte_number_below b)

-- a byte more
pub dividend_push : (bytes : List ℕ) (b : ℕ)
    → dividend (bytes ++ b ∷ []) ≡ bit_xor (2 ^ 8 * dividend bytes) (2 ^ 8 * byte_term b)
unfolding byte_term
dividend_push bytes b =
    let byte : ℕ = number (reverse (coefficients 8 b)) in
    let old : ℕ = message bytes in
    let ones : ℕ = (2 ^ 32 - 1) * 2 ^ (8 * length bytes) in
    let sum : message (bytes ++ b ∷ []) ≡ bit_xor byte (2 ^ 8 * old)
    = message_push bytes b ∙ sym (xor_low 8 byte old (byte_number_below b)) in
    let longer : (2 ^ 32 - 1) * 2 ^ (8 * length (bytes ++ b ∷ [])) ≡ 2 ^ 8 * ones
    = let count : 8 * length (bytes ++ b ∷ []) ≡ 8 * length bytes + 8
    = omega (arith, length-append bytes (b ∷ [])) in
    rw (count, pow-add 2 (8 * length bytes) 8) (omega arith) in
    let spread_byte : 2 ^ 32 * byte ≡ 2 ^ 8 * (2 ^ 24 * byte) = omega arith in
    let spread_old : 2 ^ 32 * (2 ^ 8 * old) ≡ 2 ^ 8 * (2 ^ 32 * old) = omega arith in
    let high : 2 ^ 32 * message (bytes ++ b ∷ []) ≡ bit_xor (2 ^ 8 * (2 ^ 24 * byte)) (2 ^ 8 * (2 ^ 32 * old))
    = ap (λ (x : ℕ). 2 ^ 32 * x) sum
    ∙ pow_xor 32 byte (2 ^ 8 * old)
    ∙ ap₂ bit_xor spread_byte spread_old in
    let turned : bit_xor (2 ^ 8 * (2 ^ 24 * byte)) (2 ^ 8 * (2 ^ 32 * old))
    ≡ bit_xor (2 ^ 8 * (2 ^ 32 * old)) (2 ^ 8 * (2 ^ 24 * byte))
    = xor_comm (2 ^ 8 * (2 ^ 24 * byte)) (2 ^ 8 * (2 ^ 32 * old)) in
    ap₂ bit_xor (high ∙ turned) longer
    ∙ xor_right_comm (2 ^ 8 * (2 ^ 32 * old)) (2 ^ 8 * (2 ^ 24 * byte)) (2 ^ 8 * ones)
    ∙ ap (λ (x : ℕ). bit_xor x (2 ^ 8 * (2 ^ 24 * byte))) (sym (pow_xor 8 (2 ^ 32 * old) ones))

pub dividend_below : (bytes : List ℕ) → dividend bytes < 2 ^ (8 * length bytes + 32)
dividend_below bytes =
    let n : ℕ = 8 * length bytes in
    let power : 2 ^ (n + 32) ≡ 2 ^ n * 2 ^ 32 = pow-add 2 n 32 in
    let small : message bytes < 2 ^ n = message_below bytes in
    xor_lt (n + 32) (2 ^ 32 * message bytes) ((2 ^ 32 - 1) * 2 ^ n) (omega arith) (omega (arith, pow_pos n))
