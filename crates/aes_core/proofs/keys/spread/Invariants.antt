use Rattle.std.proofs.Common.{◌≡◌, length}
use Rattle.aes_core.specs.Laws.Planes.{AreKeyPlanes}
use Rattle.aes_core.proofs.keys.spread.Given as goal

abbrev pub invariant-loop-r : goal.invariant-loop-r
invariant-loop-r l = record {
  long : length l.planes ≡ 1920;
  spread : AreKeyPlanes l.r l.schedule l.planes;
}
