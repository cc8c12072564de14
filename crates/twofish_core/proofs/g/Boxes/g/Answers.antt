use Rattle.std.proofs.Common.{◌∙◌, arith}
use Rattle.std.proofs.lemmas.Nat.Bits.{bit_at_xor, same_from_bits}
use Rattle.twofish_core.proofs.ByBytes.{g_by_tables}
use Rattle.twofish_core.proofs.g.Boxes.g.Goals as goal

-- the four entries may be added in any order
pub returns : goal.returns
returns c =
    let self = c.args.self.now in
    same_from_bits _ _ (λ i. simp bit_at_xor (omega arith))
    ∙ g_by_tables c.args.x self.words self.table_0 self.table_1 self.table_2 self.table_3
    c.to_le_bytes.result self.are_tables c.to_le_bytes.ensures
