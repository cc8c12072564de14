use Rattle.std.proofs.Common.{arith}
use Rattle.serpent_core.proofs.KeyByKey.{key_word_is}
use Rattle.serpent_core.proofs.schedule.key_word.Goals as goal

pub returns : goal.returns
returns c = key_word_is c.args.key.now c.args.i c.from_le_bytes.result (omega arith)
    c.from_le_bytes.ensures
