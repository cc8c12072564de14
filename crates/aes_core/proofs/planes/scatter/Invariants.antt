use Rattle.std.proofs.Common.{◌≡◌, length}
use Rattle.cipher_base.proofs.Loops.{Filled}
use Rattle.aes_core.specs.Laws.Planes.{plane}
use Rattle.aes_core.proofs.planes.scatter.Given as goal

abbrev pub invariant-loop-j : goal.invariant-loop-j
invariant-loop-j l = record {
  long : length l.group ≡ 128;
  filled : Filled 16 l.j (plane l.fn.x) l.group;
}
