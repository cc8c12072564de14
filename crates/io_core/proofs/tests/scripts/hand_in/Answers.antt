use Rattle.std.proofs.Common.{◌/◌, length, sym, arith, lit<}
use Rattle.vc_base.proofs.Pieces.{in_pieces_identity}
use Rattle.io_core.proofs.tests.scripts.hand_in.Goals as goal

pub deposit-requires : goal.deposit-requires
deposit-requires c =
    record { sealed = sym (in_pieces_identity 512 (length c.args.handed.now / 512) c.args.handed.now (lit< tt) (omega (arith, c.requires))) }
