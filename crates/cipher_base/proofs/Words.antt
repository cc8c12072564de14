-- Sixteen bytes and two words of 64 bits, the lower first: each of the two gives the other, as numbers that are
-- written with the lowest byte first. A list of known length is written out, byte by byte.
use Rattle.std.proofs.Common.{◌≡◌, ℕ, zero, suc, ◌+◌, ◌-◌, ◌*◌, ◌/◌, ◌%◌, ◌^◌, ◌<◌, List, [], ◌∷◌, ◌++◌, length, get_or, drop, w64, sym, ap, ap₂, ◌∙◌, arith}
use Rattle.std.specs.Int.{from_le_bytes}
use Rattle.std.proofs.Math.Nat.{div-div-eq-div-mul}
use Rattle.std.proofs.lemmas.List.{drop_more, drop_all, drop_at, take_at, append-nil, length-append, length-drop}
use borrow.Rule.Slice.PartMut.{put_mid}
use Rattle.vc_base.specs.Bytes.{from_bytes, to_bytes}
use Rattle.vc_base.proofs.Bytes.{from_bytes-append, from_bytes-to_bytes, to_bytes-from_bytes, length-to_bytes, IsBytes-to_bytes, IsBytes-append}

-- k bytes of t from place i on
listed : ℕ → ℕ → List ℕ → List ℕ
listed zero i t = []
listed (suc k) i t = get_or t i 0 ∷ listed k (i + 1) t

listed-drop : (k i : ℕ) (t : List ℕ) → length t ≡ i + k → listed k i t ≡ drop i t
unfolding listed
listed-drop zero i t long = sym (drop_all i t (omega arith))
listed-drop (suc k) i t long =
    ap (λ ts. get_or t i 0 ∷ ts) (listed-drop k (i + 1) t (omega arith)) ∙ sym (drop_more t i 0 (omega arith))

pub words_read : (t : List ℕ) (low high : ℕ) → length t ≡ 16
    → low ≡ from_le_bytes w64 (get_or t 0 0 ∷ get_or t 1 0 ∷ get_or t 2 0 ∷ get_or t 3 0 ∷ get_or t 4 0 ∷ get_or t 5 0 ∷ get_or t 6 0 ∷ get_or t 7 0 ∷ [])
    → high ≡ from_le_bytes w64 (get_or t 8 0 ∷ get_or t 9 0 ∷ get_or t 10 0 ∷ get_or t 11 0 ∷ get_or t 12 0 ∷ get_or t 13 0 ∷ get_or t 14 0 ∷ get_or t 15 0 ∷ [])
    → low + 2 ^ 64 * high ≡ from_bytes t
unfolding listed from_bytes
words_read t low high long is_low is_high =
    let whole : from_bytes (listed 16 0 t) ≡ from_bytes t = ap from_bytes (listed-drop 16 0 t long) in
    let written : low + 2 ^ 64 * high ≡ from_bytes (listed 16 0 t) = omega arith in
    written ∙ whole

pub eight : (n : ℕ) → to_bytes 8 n ≡ n % 256 ∷ n / 256 ^ 1 % 256 ∷ n / 256 ^ 2 % 256 ∷ n / 256 ^ 3 % 256 ∷ n / 256 ^ 4 % 256 ∷ n / 256 ^ 5 % 256 ∷ n / 256 ^ 6 % 256 ∷ n / 256 ^ 7 % 256 ∷ []
unfolding to_bytes
eight n = simp div-div-eq-div-mul

-- two words of 8 bytes each are the 16 bytes of one number
pub bytes_joined : (low high : ℕ) → low < 2 ^ 64 → high < 2 ^ 64
    → to_bytes 8 low ++ to_bytes 8 high ≡ to_bytes 16 (low + 2 ^ 64 * high)
bytes_joined low high low_fits high_fits =
    let ls = to_bytes 8 low in
    let hs = to_bytes 8 high in
    let number : from_bytes (ls ++ hs) ≡ low + 2 ^ 64 * high
    = from_bytes-append ls hs
    ∙ ap₂ (λ k h. from_bytes ls + 256 ^ k * h) (length-to_bytes 8 low) (from_bytes-to_bytes 8 high high_fits)
    ∙ ap (λ l. l + 2 ^ 64 * high) (from_bytes-to_bytes 8 low low_fits) in
    sym (to_bytes-from_bytes 16 (ls ++ hs) (IsBytes-append 8 8 ls hs (IsBytes-to_bytes 8 low) (IsBytes-to_bytes 8 high)))
    ∙ ap (to_bytes 16) number

pub bytes_of_words : (low high : ℕ) → low < 2 ^ 64 → high < 2 ^ 64
    → low % 256 ∷ low / 256 ^ 1 % 256 ∷ low / 256 ^ 2 % 256 ∷ low / 256 ^ 3 % 256 ∷ low / 256 ^ 4 % 256 ∷ low / 256 ^ 5 % 256 ∷ low / 256 ^ 6 % 256 ∷ low / 256 ^ 7 % 256 ∷ high % 256 ∷ high / 256 ^ 1 % 256 ∷ high / 256 ^ 2 % 256 ∷ high / 256 ^ 3 % 256 ∷ high / 256 ^ 4 % 256 ∷ high / 256 ^ 5 % 256 ∷ high / 256 ^ 6 % 256 ∷ high / 256 ^ 7 % 256 ∷ [] ≡ to_bytes 16 (low + 2 ^ 64 * high)
bytes_of_words low high low_fits high_fits =
    ap₂ ◌++◌ (sym (eight low)) (sym (eight high)) ∙ bytes_joined low high low_fits high_fits

-- the first 8 of 16 bytes were written, and then the rest
pub both_written : (block low_bytes high_bytes : List ℕ) (low high : ℕ) → length block ≡ 16
    → low_bytes ≡ to_bytes 8 low → high_bytes ≡ to_bytes 8 high → low < 2 ^ 64 → high < 2 ^ 64
    → put_mid 8 (length (low_bytes ++ drop 8 block) - 8) (low_bytes ++ drop 8 block) high_bytes
    ≡ to_bytes 16 (low + 2 ^ 64 * high)
both_written block low_bytes high_bytes low high long is_low is_high low_fits high_fits =
    let front : length low_bytes ≡ 8 = ap length is_low ∙ length-to_bytes 8 low in
    let back : length (drop 8 block) ≡ 8 = length-drop 8 block ∙ omega arith in
    let count : length (low_bytes ++ drop 8 block) - 8 ≡ 8
    = let sum = length-append low_bytes (drop 8 block) in omega arith in
    let nothing : drop (length (low_bytes ++ drop 8 block) - 8) (drop 8 (low_bytes ++ drop 8 block)) ≡ []
    = ap₂ (λ k (xs : List ℕ). drop k xs) count (drop_at low_bytes (drop 8 block) 8 front) ∙ drop_all 8 (drop 8 block) (omega arith) in
    ap₂ ◌++◌ (take_at low_bytes (drop 8 block) 8 front ∙ is_low)
    (ap (λ (xs : List ℕ). high_bytes ++ xs) nothing ∙ append-nil high_bytes ∙ is_high)
    ∙ bytes_joined low high low_fits high_fits
