use Rattle.aes_core.proofs.Moves.{inverse_shift_rows_each}
use Rattle.aes_core.proofs.rows.unshifted.Goals as goal

pub returns : goal.returns
returns c =
    rw (c.right.ensures, c.right-2.ensures, c.right-3.ensures, c.right-4.ensures, c.right-5.ensures, c.right-6.ensures, c.right-7.ensures, c.right-8.ensures)
    (inverse_shift_rows_each c.args.x c.requires)
