use Rattle.aes_core.proofs.Moves.{two_rows_below_each}
use Rattle.aes_core.proofs.rows.two_below.Goals as goal

pub returns : goal.returns
returns c =
    rw (c.up_two.ensures, c.up_two-2.ensures, c.up_two-3.ensures, c.up_two-4.ensures, c.up_two-5.ensures, c.up_two-6.ensures, c.up_two-7.ensures, c.up_two-8.ensures)
    (two_rows_below_each c.args.x c.requires)
