use Rattle.std.proofs.Common.{◌∷◌, ℕ, ap, ap₂, refl, w32}
use Rattle.std.specs.Int.{rotate_left}
use Rattle.twofish_core.specs.Twofish.{key_pair}
use Rattle.twofish_core.proofs.Steps.{sum_of_2}
use Rattle.twofish_core.proofs.schedule.key_pair.Goals as goal

pub returns : goal.returns
unfolding key_pair
returns c =
    rw (c.rotate_left.ensures, c.rotate_left-b.ensures, c.h-a.ensures, c.h.ensures)
    (rw (c.even_words.ensures, c.odd_words.ensures)
    (ap₂ ◌∷◌ refl (ap₂ ◌∷◌ (ap (λ (x : ℕ). rotate_left w32 x 9) (sum_of_2 _ _)) refl)))
