use Rattle.std.proofs.Common.{◌≡◌, length}
use Rattle.cipher_base.proofs.Loops.{Filled}
use Rattle.twofish_core.specs.Twofish.{key_pair}
use Rattle.twofish_core.proofs.schedule.round_keys.Given as goal

abbrev pub invariant-loop-i : goal.invariant-loop-i
invariant-loop-i l = (length l.keys ≡ 40) × Filled 2 l.i (key_pair l.key) l.keys
