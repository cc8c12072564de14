-- The first tweaks of 8 units at a time. Unit k has its tweaks at place k % 8 of its group's lists, so
-- the lists are made anew if i % 8 is 0, and serve until the next such i.
use Rattle.std.proofs.Common.{◌≡◌, ℕ, ◌+◌, ◌-◌, ◌*◌, ◌/◌, ◌%◌, ◌<◌, min, List, refl, subst, arith}
use Rattle.cascade_set.specs.declared.keyed.Tweaks.{Tweaks}
use Rattle.cascade_set.specs.Laws.FirstTweaks.{AreTweaks}

-- the tweaks of the units of i's group, as far as there are units
pub record Ready (a b c : ℕ → List ℕ) (first count i : ℕ) (tweaks : Tweaks) : Type 0 where
  pub at : (k : ℕ) → k < count → k / 8 ≡ i / 8 → AreTweaks a b c tweaks (k % 8) (first + k)

pub ready_anew : (a b c : ℕ → List ℕ) (first count i m : ℕ) (tweaks : Tweaks) → i % 8 ≡ 0
    → m ≡ min (count - i) 8 → ((j : ℕ) → j < m → AreTweaks a b c tweaks j (first + i + j))
    → Ready a b c first count i tweaks
ready_anew a b c first count i m tweaks starts few made = record {
  at = λ k within group.
      let number : first + i + k % 8 ≡ first + k = omega arith in
      subst (AreTweaks a b c tweaks (k % 8)) number (made (k % 8) (omega arith));
}

pub ready_next : (a b c : ℕ → List ℕ) (first count i : ℕ) (tweaks : Tweaks)
    → Ready a b c first count i tweaks → 0 < (i + 1) % 8 → Ready a b c first count (i + 1) tweaks
ready_next a b c first count i tweaks ready inside = record {
  at = λ k within group. ready.at k within (omega arith);
}
