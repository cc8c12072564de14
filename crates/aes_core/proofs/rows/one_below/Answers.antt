use Rattle.aes_core.proofs.Moves.{row_below_each}
use Rattle.aes_core.proofs.rows.one_below.Goals as goal

pub returns : goal.returns
returns c =
    rw (c.up.ensures, c.up-2.ensures, c.up-3.ensures, c.up-4.ensures, c.up-5.ensures, c.up-6.ensures, c.up-7.ensures, c.up-8.ensures)
    (row_below_each c.args.x c.requires)
