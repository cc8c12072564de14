-- A stretch that is changed_by_xor with T_0, T_1, .. as one list, enciphered block by block, and changed_by_xor again is `xts`:
-- block j of it is whitened with T_j. And unit numbers that are enciphered together are the first tweaks.
use Rattle.std.proofs.Common.{◌≡◌, ℕ, ◌+◌, ◌*◌, ◌/◌, ◌%◌, ◌<◌, ◌≤◌, List, ◌++◌, length, get_or, refl, sym, ap, ap₂, subst, ◌∙◌, arith}
use Rattle.vc_base.specs.Bytes.{IsBytes, to_bytes, xor_bytes, piece, joined, in_pieces}
use Rattle.vc_base.proofs.Pieces.{length-joined, piece-joined, piece_of_whole, piece-append_left, in_pieces-joined, in_pieces_alone}
use Rattle.vc_base.proofs.Bytes.{IsBytes-to_bytes, IsBytes-xor, IsBytes-piece}
use Rattle.cipher_base.specs.Field.{times_power}
use Rattle.cipher_base.specs.Xts.{whitened}
use Rattle.cipher_base.proofs.Doubling.{IsBytes-times_power}
use Rattle.vc_base.proofs.XorBytes.{length-xor_bytes, piece-xor_bytes}

pub stretched : (main : List ℕ → List ℕ) (first old tweaks : List ℕ)
    → ((b : List ℕ) → IsBytes 16 b → IsBytes 16 (main b))
    → ((i : ℕ) → get_or old i 0 < 256) → length old % 16 ≡ 0 → length old ≤ 512
    → tweaks ≡ joined (λ j. times_power j first) 32
    → xor_bytes (in_pieces 16 (λ j b. main b) (xor_bytes old tweaks)) tweaks ≡ in_pieces 16 (λ j p. whitened main (times_power j first) p) old
stretched main first old tweaks keeps each whole short is_tweaks =
    let k = length old / 16 in
    let t : ℕ → List ℕ = λ j. times_power j first in
    let count : length old ≡ 16 * k = omega arith in
    let tweaks_count : length tweaks ≡ 512
    = ap length is_tweaks ∙ length-joined t 16 32 (λ j h. (IsBytes-times_power j first).count) in
    let mask : (j : ℕ) → j < k → piece 16 j tweaks ≡ t j
    = λ j h. ap (piece 16 j) is_tweaks ∙ piece-joined t 16 32 j (λ i h. (IsBytes-times_power i first).count) (omega arith) in
    let plain : (j : ℕ) → j < k → IsBytes 16 (piece 16 j old)
    = λ j h. IsBytes-piece (16 * k) 16 j old (record { count = count; each = each }) (piece_of_whole 16 j k (16 * k) refl h) in
    let mid = xor_bytes old tweaks in
    let mid_count : length mid ≡ 16 * k = length-xor_bytes old tweaks (omega arith) ∙ count in
    let mid_piece : (j : ℕ) → j < k → piece 16 j mid ≡ xor_bytes (piece 16 j old) (t j)
    = λ j h. piece-xor_bytes 16 j old tweaks ∙ ap (xor_bytes (piece 16 j old)) (mask j h) in
    let made : (j : ℕ) → j < k → IsBytes 16 (main (piece 16 j mid))
    = λ j h. keeps (piece 16 j mid) (subst (IsBytes 16) (sym (mid_piece j h))
    (IsBytes-xor 16 (piece 16 j old) (t j) (plain j h) (IsBytes-times_power j first))) in
    let inner = in_pieces 16 (λ (j : ℕ) (b : List ℕ). main b) mid in
    let inner_joined : inner ≡ joined (λ j. main (piece 16 j mid)) k
    = in_pieces-joined 16 k (λ j b. main b) mid (omega arith) mid_count in
    let inner_count : length inner ≡ 16 * k
    = ap length inner_joined ∙ length-joined (λ j. main (piece 16 j mid)) 16 k (λ j h. (made j h).count) in
    let inner_piece : (j : ℕ) → j < k → piece 16 j inner ≡ main (xor_bytes (piece 16 j old) (t j))
    = λ j h. ap (piece 16 j) inner_joined
    ∙ piece-joined (λ i. main (piece 16 i mid)) 16 k j (λ i h. (made i h).count) h
    ∙ ap main (mid_piece j h) in
    in_pieces_alone 16 k (λ j p. whitened main (t j) p) old (xor_bytes inner tweaks) (omega arith) count
    (length-xor_bytes inner tweaks (omega arith) ∙ inner_count)
    (λ j h. piece-xor_bytes 16 j inner tweaks ∙ ap₂ xor_bytes (inner_piece j h) (mask j h))

-- numbers that were enciphered as one list
pub numbers_enciphered : (main : List ℕ → List ℕ) (unit count : ℕ) (front made rest : List ℕ)
    → ((b : List ℕ) → IsBytes 16 b → IsBytes 16 (main b))
    → front ≡ joined (λ j. to_bytes 16 (unit + j)) count → made ≡ in_pieces 16 (λ j b. main b) front
    → (j : ℕ) → j < count → piece 16 j (made ++ rest) ≡ main (to_bytes 16 (unit + j))
numbers_enciphered main unit count front made rest keeps is_front is_made j within =
    let number : ℕ → List ℕ = λ i. to_bytes 16 (unit + i) in
    let long : length front ≡ 16 * count
    = ap length is_front ∙ length-joined number 16 count (λ i h. (IsBytes-to_bytes 16 (unit + i)).count) in
    let at : (i : ℕ) → i < count → piece 16 i front ≡ number i
    = λ i h. ap (piece 16 i) is_front ∙ piece-joined number 16 count i (λ k g. (IsBytes-to_bytes 16 (unit + k)).count) h in
    let each : (i : ℕ) → i < count → IsBytes 16 (main (piece 16 i front))
    = λ i h. keeps (piece 16 i front) (subst (IsBytes 16) (sym (at i h)) (IsBytes-to_bytes 16 (unit + i))) in
    let apart : made ≡ joined (λ i. main (piece 16 i front)) count
    = is_made ∙ in_pieces-joined 16 count (λ i b. main b) front (omega arith) long in
    let made_long : length made ≡ 16 * count
    = ap length apart ∙ length-joined (λ i. main (piece 16 i front)) 16 count (λ i h. (each i h).count) in
    piece-append_left 16 j made rest (subst (λ l. 16 * j + 16 ≤ l) (sym made_long) (piece_of_whole 16 j count (16 * count) refl within))
    ∙ ap (piece 16 j) apart
    ∙ piece-joined (λ i. main (piece 16 i front)) 16 count j (λ i h. (each i h).count) within
    ∙ ap main (at j within)
