-- Ranges of sectors that don't overlap have no data unit in common.
use Rattle.std.proofs.Common.{◌≡◌, ◌<◌, ◌≤◌, ◌⊎◌, inl, inr, ℕ, suc, ◌+◌, ◌*◌, ◌-◌, Bool, true, false, ◌&&◌, leb, ltb, cond, List, refl, ap, ◌∙◌, arith, mul-le-mul_left}
use Rattle.std.proofs.lemmas.Bool.Decides.{leb_tells}
use Rattle.range_base.specs.Range.{IsInRange, Overlap}
use Rattle.sector_model.specs.Array.{Array, AreSectors, is_in, laid, sectors_of, unit, units_of, Volume}

-- one ends where the other begins or before, or one of them is empty
pub record AreBeside (first count other others : ℕ) : Type 0 where
  pub cases : (first + count ≤ other) ⊎ (other + others ≤ first) ⊎ (count ≡ 0) ⊎ (others ≡ 0)

pub beside : (first count other others : ℕ) → ¬ Overlap first count other others → AreBeside first count other others
beside first count other others none = record { cases = go }
  where
    at : (k : ℕ) → first ≤ k → k < first + count → other ≤ k → k < other + others → ⊥
    at k a b c d = none (record { common = k; in_first = record { from = a; below = b }; in_other = record { from = c; below = d } })

    go : (first + count ≤ other) ⊎ (other + others ≤ first) ⊎ (count ≡ 0) ⊎ (others ≡ 0)
    go = elim (leb_tells first other) [
      | inl (p, from) ↦ elim (leb_tells (first + count) other) [
        | inl (q, before) ↦ inl before
        | inr (q, more) ↦ elim (leb_tells others 0) [
          | inl (r, none_there) ↦ inr (inr (inr (omega arith)))
          | inr (r, some) ↦ absurd (at other from more (omega arith) (omega arith))
        ]
      ]
      | inr (p, past) ↦ elim (leb_tells (other + others) first) [
        | inl (q, after) ↦ inr (inl after)
        | inr (q, more) ↦ elim (leb_tells count 0) [
          | inl (r, none_here) ↦ inr (inr (inl (omega arith)))
          | inr (r, some) ↦ absurd (at first (omega arith) (omega arith) (omega arith) more)
        ]
      ]
    ]

pub turned : (first count other others : ℕ) → ¬ Overlap first count other others → ¬ Overlap other others first count
turned first count other others none o = none (record { common = o.common; in_first = o.in_other; in_other = o.in_first })

-- whole sectors are as many units
pub units_of_sectors : (v : Volume) (bytes : List ℕ) → AreSectors v bytes → units_of bytes ≡ v.per_sector * sectors_of v bytes
units_of_sectors v bytes whole = omega arith

-- a unit isn't in both of two ranges of sectors that don't overlap
pub units_apart : (m f c g d u : ℕ) → ¬ Overlap f c g d → IsInRange (m * f) (m * c) u → IsInRange (m * g) (m * d) u → ⊥
units_apart m f c g d u none here there = elim ((beside f c g d none).cases) [
  | inl before ↦ omega (arith, mul-le-mul_left m before, here.below, there.from)
  | inr (inl after) ↦ omega (arith, mul-le-mul_left m after, there.below, here.from)
  | inr (inr (inl empty)) ↦ omega (arith, ap (λ (n : ℕ). m * n) empty, here.from, here.below)
  | inr (inr (inr empty)) ↦ omega (arith, ap (λ (n : ℕ). m * n) empty, there.from, there.below)
]

-- data laid over an array: at its units, and at all others
pub laid_inside : (v : Volume) (first : ℕ) (bytes : List ℕ) (a : Array) (k : ℕ) → k < units_of bytes
    → laid v first bytes a (v.per_sector * first + k) ≡ unit k bytes
laid_inside v first bytes a k inside =
    let i : ℕ = v.per_sector * first in
    let place : i + k - i ≡ k = omega arith in
    let held : is_in v first bytes (i + k) ≡ true = both (leb i (i + k)) (ltb (i + k) (i + units_of bytes)) (yes_le i (i + k) (omega arith)) (yes_le (suc (i + k)) (i + units_of bytes) (omega arith)) in
    ap (λ b. cond b (unit (i + k - i) bytes) (a (i + k))) held ∙ ap (λ (n : ℕ). unit n bytes) place
  where
    both : (x y : Bool) → x ≡ true → y ≡ true → (x && y) ≡ true
    both true true p q = refl
    both true false p q = q
    both false true p q = p
    both false false p q = p

    yes_le : (x y : ℕ) → x ≤ y → leb x y ≡ true
    yes_le x y le = elim (leb_tells x y) [ inl (t, l) ↦ t | inr (f, m) ↦ absurd (omega arith) ]

pub laid_outside : (v : Volume) (first : ℕ) (bytes : List ℕ) (a : Array) (u : ℕ) → ¬ IsInRange (v.per_sector * first) (units_of bytes) u
    → laid v first bytes a u ≡ a u
laid_outside v first bytes a u out =
    let i : ℕ = v.per_sector * first in
    let held : is_in v first bytes u ≡ false = elim (leb_tells i u) [
      | inr (p, before) ↦ no_first (leb i u) (ltb u (i + units_of bytes)) p
      | inl (p, from) ↦ elim (leb_tells (suc u) (i + units_of bytes)) [
        | inr (q, past) ↦ no_second (leb i u) (ltb u (i + units_of bytes)) q
        | inl (q, below) ↦ absurd (out (record { from = from; below = below }))
      ]
    ] in
    ap (λ b. cond b (unit (u - i) bytes) (a u)) held
  where
    no_first : (x y : Bool) → x ≡ false → (x && y) ≡ false
    no_first true y p = cc
    no_first false y p = refl

    no_second : (x y : Bool) → y ≡ false → (x && y) ≡ false
    no_second true y p = p
    no_second false y p = refl
