use Rattle.std.proofs.Common.{◌≡◌, bit_xor, ◌∙◌, arith}
use Rattle.std.proofs.lemmas.Nat.Bits.{bit_at_xor, same_from_bits}
use Rattle.twofish_core.specs.Twofish.{h}
use Rattle.twofish_core.proofs.ByBytes.{h_by_bytes}
use Rattle.twofish_core.proofs.h.h.Goals as goal

-- the four words may be added in any order
pub returns : goal.returns
returns c =
    let a = c.from_byte_0.result in
    let b = c.from_byte_1.result in
    let d = c.from_byte_2.result in
    let e = c.from_byte_3.result in
    let sum : bit_xor (bit_xor a b) (bit_xor d e) ≡ h c.args.x c.args.l
    = rw (c.from_byte_0.ensures, c.from_byte_1.ensures, c.from_byte_2.ensures, c.from_byte_3.ensures)
    (h_by_bytes c.args.x c.args.l c.to_le_bytes.result c.to_le_bytes.ensures) in
    same_from_bits _ _ (λ i. simp bit_at_xor (omega arith)) ∙ sum
