-- A write to the container, unit by unit: what is outside of it stays.
use Rattle.std.proofs.Common.{◌≡◌, ◌≤◌, ℕ, suc, ◌+◌, ◌*◌, ◌-◌, List, length, take, drop, sym, ap, ◌∙◌, arith, inl, inr, mul-le-mul_left}
use Rattle.std.proofs.lemmas.List.{drop-drop, take-take}
use Rattle.std.proofs.lemmas.Bool.Decides.{leb_tells}
use Rattle.range_base.specs.Range.{IsInRange}
use Rattle.vc_base.specs.Bytes.{piece}
use Rattle.vc_base.proofs.Chunks.{piece-take}
use Rattle.vc_outside.specs.Told.{SameOutside}
use Rattle.sector_model.specs.Array.{unit}

-- only n units from the unit `first` on may differ
pub record Rewrites (first n : ℕ) (old new : List ℕ) : Type 0 where
  pub as_long : length new ≡ length old
  pub before : (k : ℕ) → k ≤ 512 * first → take k new ≡ take k old
  pub behind : (k : ℕ) → 512 * (first + n) ≤ k → drop k new ≡ drop k old
  pub others : (u : ℕ) → ¬ IsInRange first n u → unit u new ≡ unit u old

pub rewrites : (first n : ℕ) (old new : List ℕ) → SameOutside (512 * first) (512 * n) old new → Rewrites first n old new
rewrites first n old new same = record {
  as_long = same.as_long;
  before = before;
  behind = behind;
  others = λ u out. elim (leb_tells (suc u) first) [
    | inl (p, below) ↦
        let row : 512 * u + 512 ≤ 512 * first = omega (arith, mul-le-mul_left 512 below) in
        sym (piece-take 512 u (512 * first) new row) ∙ ap (piece 512 u) same.before ∙ piece-take 512 u (512 * first) old row
    | inr (p, from) ↦ elim (leb_tells (first + n) u) [
      | inl (q, past) ↦ ap (take 512) (behind (512 * u) (mul-le-mul_left 512 past))
      | inr (q, below) ↦ absurd (out (record { from = omega arith; below = omega arith }))
    ]
  ];
}
  where
    before : (k : ℕ) → k ≤ 512 * first → take k new ≡ take k old
    before k within = sym (take-take k (512 * first) new within) ∙ ap (take k) same.before ∙ take-take k (512 * first) old within

    behind : (k : ℕ) → 512 * (first + n) ≤ k → drop k new ≡ drop k old
    behind k past =
        let whole : 512 * first + 512 * n + (k - (512 * first + 512 * n)) ≡ k = omega arith in
        sym (drop-drop (k - (512 * first + 512 * n)) (512 * first + 512 * n) new ∙ ap (λ (i : ℕ). drop i new) whole)
        ∙ ap (drop (k - (512 * first + 512 * n))) same.after
        ∙ drop-drop (k - (512 * first + 512 * n)) (512 * first + 512 * n) old ∙ ap (λ (i : ℕ). drop i old) whole
