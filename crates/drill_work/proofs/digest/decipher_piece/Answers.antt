use Rattle.std.proofs.Common.{refl, ◌∙◌}
use Rattle.drill_work.proofs.Units.{units_read}
use Rattle.drill_work.proofs.digest.decipher_piece.Goals as goal

pub returns-clause-units : goal.returns-clause-units
returns-clause-units g c =
    c.decipher_units.ensures ∙ units_read (g.C.UnitCipher.deciphered c.args.cipher.now) c.args.bytes.now c.copy_from_slice.new.self
    c.args.first _ _ _ c.copy_from_slice.ensures.after refl refl c.copy_from_slice.ensures.len c.requires.whole
