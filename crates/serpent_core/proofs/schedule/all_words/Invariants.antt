use Rattle.std.proofs.Common.{◌≡◌, ◌+◌, take, length}
use Rattle.serpent_core.specs.Serpent.{prekeys}
use Rattle.serpent_core.proofs.schedule.all_words.Given as goal

abbrev pub invariant-loop-i : goal.invariant-loop-i
invariant-loop-i l = (length l.words ≡ 140) × (take (l.i + 8) l.words ≡ prekeys l.key l.i)
