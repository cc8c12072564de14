use Rattle.std.proofs.Common.{arith, ap, ap₂, ◌∙◌}
use Rattle.vc_base.specs.Bytes.{xor_bytes}
use Rattle.aes_core.specs.Aes.{turned, next_word}
use Rattle.aes_core.proofs.Words.{xor_four}
use Rattle.aes_core.proofs.schedule.next.Goals as goal

pub returns : goal.returns
unfolding next_word
returns c =
    xor_four c.word.result c.turn.result (omega arith) (omega arith)
    ∙ ap₂ xor_bytes c.word.ensures (c.turn.ensures ∙ ap (turned c.args.i) c.word-2.ensures)
