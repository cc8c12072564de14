use Rattle.std.proofs.Common.{◌-◌, ◌∙◌, ap, arith}
use Rattle.lane_kernels.specs.SerpentRounds.{entry, substituted}
use Rattle.serpent_core.proofs.KeyByKey.{words_of_key}
use Rattle.serpent_core.proofs.schedule.key_of_round.Goals as goal

pub returns : goal.returns
returns c = c.serpent_box.ensures ∙ ap (substituted (entry (35 - c.args.i)))
    (words_of_key c.args.words.now c.args.i (omega arith))
