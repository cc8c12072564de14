use Rattle.std.proofs.Common.{◌/◌, length, sym, arith, lit<}
use Rattle.vc_base.proofs.Pieces.{in_pieces_identity}
use Rattle.io_core.proofs.tests.SameUnitCipher.encipher_units.Goals as goal

pub returns : goal.returns
returns c = sym (in_pieces_identity 512 (length c.args.units.now / 512) c.args.units.now (lit< tt) (omega (arith, c.requires.whole)))
