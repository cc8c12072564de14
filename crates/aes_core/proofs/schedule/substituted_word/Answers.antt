use Rattle.std.proofs.Common.{arith}
use Rattle.aes_core.proofs.KeyPlanes.{copies_planes}
use Rattle.aes_core.proofs.Words.{word_block, word_block_bytes, word_substituted}
use Rattle.aes_core.proofs.schedule.substituted_word.Goals as goal

pub transposed-requires : goal.transposed-requires
transposed-requires c =
    copies_planes (word_block c.args.a c.args.b c.args.c c.args.d)
    (word_block_bytes c.args.a c.args.b c.args.c c.args.d (omega arith) (omega arith) (omega arith) (omega arith))

pub returns : goal.returns
returns c =
    word_substituted c.args.a c.args.b c.args.c c.args.d c.transposed.result c.substituted.result c.transposed-2.result
    c.transposed.ensures c.substituted.ensures c.transposed-2.ensures
