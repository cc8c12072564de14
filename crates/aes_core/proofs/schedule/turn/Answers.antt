use Rattle.std.proofs.Common.{◌∙◌, arith}
use Rattle.aes_core.proofs.Words.{turned_first, turned_middle, turned_rest}
use Rattle.aes_core.proofs.schedule.turn.Goals as goal

pub returns-then-i-eq0 : goal.returns-then-i-eq0
returns-then-i-eq0 c =
    rw c.substituted_word.ensures (turned_first c.args.i c.args.last (omega arith) (omega arith) (omega arith))

pub returns-then-i-eq4 : goal.returns-then-i-eq4
returns-then-i-eq4 c =
    c.substituted_word-then-i-eq4.ensures ∙ turned_middle c.args.i c.args.last (omega arith) (omega arith) (omega arith)

pub returns-else-i-eq4 : goal.returns-else-i-eq4
returns-else-i-eq4 c = turned_rest c.args.i c.args.last (omega arith) (omega arith)
