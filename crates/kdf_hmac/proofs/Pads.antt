-- The first bytes of a block, each XORed with one byte, as HMAC's pads are.
use Rattle.std.proofs.Common.{◌≡◌, ◌<◌, ◌≤◌, ℕ, List, length, take, get_or, replicate, bit_xor}
use Rattle.std.proofs.Common.{sym, ap, ◌∙◌, arith}
use Rattle.std.proofs.lemmas.List.{get_or-replicate, length-replicate, take-replicate}
use Rattle.vc_base.specs.Bytes.{xor_bytes}
use Rattle.vc_base.proofs.XorBytes.{changed_by_xor, take-xor_bytes}

-- the first n bytes, each XORed with one byte
pub xor_with_byte : (n m : ℕ) (out xs : List ℕ) (byte : ℕ) → n ≤ m → length out ≡ m → length xs ≡ m
    → ((k : ℕ) → k < m → get_or out k 0 ≡ bit_xor (get_or xs k 0) byte)
    → take n out ≡ xor_bytes (take n xs) (replicate n byte)
xor_with_byte n m out xs byte fits e f each =
    let pad = replicate m byte in
    let length_pad : length pad ≡ m = length-replicate m byte in
    let all : out ≡ xor_bytes xs pad
    = changed_by_xor out xs pad (e ∙ sym f) (omega (arith, f, length_pad))
    (λ k h. let inside : k < m = omega (arith, h, f) in
    each k inside ∙ ap (bit_xor (get_or xs k 0)) (sym (get_or-replicate m k byte 0 inside))) in
    ap (take n) all ∙ take-xor_bytes n xs pad ∙ ap (xor_bytes (take n xs)) (take-replicate n m byte fits)
