use Rattle.std.proofs.Common.{◌≡◌, ◌-◌, ◌*◌, take, length}
use Rattle.aes_core.specs.Aes.{schedule}
use Rattle.aes_core.proofs.schedule.fill.Given as goal

abbrev pub invariant-loop-i : goal.invariant-loop-i
invariant-loop-i l = (length l.words ≡ 240) × (take (4 * l.i) l.words ≡ schedule l.key (l.i - 8))
