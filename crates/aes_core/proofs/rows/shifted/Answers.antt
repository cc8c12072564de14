use Rattle.aes_core.proofs.Moves.{shift_rows_each}
use Rattle.aes_core.proofs.rows.shifted.Goals as goal

pub returns : goal.returns
returns c =
    rw (c.left.ensures, c.left-2.ensures, c.left-3.ensures, c.left-4.ensures, c.left-5.ensures, c.left-6.ensures, c.left-7.ensures, c.left-8.ensures)
    (shift_rows_each c.args.x c.requires)
