use Rattle.std.proofs.Common.{◌+◌, ◌*◌, ◌∷◌, get_or, refl, ap₂}
use Rattle.twofish_core.specs.Twofish.{f0, f1}
use Rattle.twofish_core.proofs.Steps.{sum_of_3, sum_of_4}
use Rattle.twofish_core.proofs.rounds.f.Goals as goal

pub returns : goal.returns
unfolding f0 f1
returns c =
    rw (c.g-t0.ensures, c.g-t1.ensures, c.rotate_left.ensures)
    (ap₂ ◌∷◌ (sum_of_3 _ _ (get_or c.args.keys.now (2 * c.args.r + 8) 0))
    (ap₂ ◌∷◌ (sum_of_4 _ _ (get_or c.args.keys.now (2 * c.args.r + 9) 0)) refl))
