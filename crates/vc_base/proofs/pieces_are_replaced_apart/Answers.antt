use Rattle.vc_base.proofs.Pieces.{piece-in_pieces_whole, in_pieces_alone}
use Rattle.vc_base.proofs.pieces_are_replaced_apart.Goals as goal

pub returns-clause-each : goal.returns-clause-each
returns-clause-each c n k j f xs some whole kept inside =
    piece-in_pieces_whole n k j f xs (record { keeps = kept }) some whole inside

pub returns-clause-alone : goal.returns-clause-alone
returns-clause-alone c = in_pieces_alone
