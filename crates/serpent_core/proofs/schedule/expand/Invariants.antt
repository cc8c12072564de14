use Rattle.std.proofs.Common.{◌≡◌, [], ◌∷◌, take, length}
use Rattle.vc_base.specs.Bytes.{joined}
use Rattle.serpent_core.specs.Serpent.{round_key}
use Rattle.serpent_core.proofs.schedule.expand.Given as goal

abbrev pub invariant-loop-i : goal.invariant-loop-i
invariant-loop-i l = record {
  long : length l.k ≡ 33;
  filled : take l.i l.k ≡ joined (λ j. round_key l.key j ∷ []) l.i;
}
