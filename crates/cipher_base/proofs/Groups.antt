-- The first tweaks of 32 units at a time. Unit k has its tweak at place k % 32 of its group's list, so the list
-- is made anew where i % 32 is 0, and serves until the next such i.
use Rattle.std.proofs.Common.{◌≡◌, ℕ, ◌+◌, ◌-◌, ◌*◌, ◌/◌, ◌%◌, ◌<◌, min, List, take, drop, refl, ap, ◌∙◌, arith}
use Rattle.vc_base.specs.Bytes.{to_bytes, piece}

-- the tweaks of the units of i's group, as far as there are units
pub record Ready (tweak_of : List ℕ → List ℕ) (first count i : ℕ) (tweaks : List ℕ) : Type 0 where
  pub at : (k : ℕ) → k < count → k / 32 ≡ i / 32 → piece 16 (k % 32) tweaks ≡ tweak_of (to_bytes 16 (first + k))

pub ready_anew : (tweak_of : List ℕ → List ℕ) (first count i m : ℕ) (tweaks : List ℕ) → i % 32 ≡ 0 → m ≡ min (count - i) 32
    → ((j : ℕ) → j < m → piece 16 j tweaks ≡ tweak_of (to_bytes 16 (first + i + j)))
    → Ready tweak_of first count i tweaks
ready_anew tweak_of first count i m tweaks starts few made = record {
  at = λ k within group.
      let number : first + i + k % 32 ≡ first + k = omega arith in
      made (k % 32) (omega arith) ∙ ap (λ x. tweak_of (to_bytes 16 x)) number;
}

pub ready_next : (tweak_of : List ℕ → List ℕ) (first count i : ℕ) (tweaks : List ℕ) → Ready tweak_of first count i tweaks
    → 0 < (i + 1) % 32 → Ready tweak_of first count (i + 1) tweaks
ready_next tweak_of first count i tweaks ready inside = record {
  at = λ k within group. ready.at k within (omega arith);
}

pub ready_here : (tweak_of : List ℕ → List ℕ) (first count i n : ℕ) (tweaks : List ℕ) → Ready tweak_of first count i tweaks
    → i < count → n ≡ 16 → take n (drop (16 * (i % 32)) tweaks) ≡ tweak_of (to_bytes 16 (first + i))
ready_here tweak_of first count i n tweaks ready within e =
    ap (λ k. take k (drop (16 * (i % 32)) tweaks)) e ∙ ready.at i within refl
