-- Fragment k of a write: the part of its data that a deposit stores.
use Rattle.std.proofs.Common.{◌≡◌, ◌≤◌, ◌<◌, ◌⊎◌, inl, inr, ℕ, ◌+◌, ◌*◌, ◌/◌, ◌%◌, ◌-◌, List, length, take, drop, sym, ap, ◌∙◌, arith, length-drop}
use Rattle.std.proofs.lemmas.List.{length-take-le, take_all}
use Rattle.vc_base.specs.Bytes.{piece}
use Rattle.sector_model.specs.Array.{units_of}

-- n units of the bytes, from the unit 512 * k on
pub record IsCut (bytes : List ℕ) (k m : ℕ) (fragment : List ℕ) : Type 0 where
  pub part : fragment ≡ take m (drop (512 * (512 * k)) bytes)
  pub enough : length fragment ≤ m
  pub long : length fragment ≡ 512 * (length fragment / 512)
  pub all : 512 * k + length fragment / 512 ≤ units_of bytes
  pub few : length fragment / 512 ≤ 512
  pub last : (length fragment / 512 ≡ 512) ⊎ (512 * k + length fragment / 512 ≡ units_of bytes)

pub cut : (bytes : List ℕ) (k to : ℕ) (fragment : List ℕ) → length bytes % 512 ≡ 0 → 262144 * k < length bytes
    → to ≤ 262144 * k + 262144 → to ≤ length bytes → (to ≡ 262144 * k + 262144) ⊎ (to ≡ length bytes) → 262144 * k ≤ to
    → fragment ≡ take (to - 262144 * k) (drop (262144 * k) bytes) → IsCut bytes k (to - 262144 * k) fragment
cut bytes k to fragment whole some small within ends from is =
    let long : length fragment ≡ to - 262144 * k = ap length is ∙ length-take-le (to - 262144 * k) (drop (262144 * k) bytes) (omega (arith, length-drop (262144 * k) bytes)) in
    record {
      part = is ∙ ap (λ (i : ℕ). take (to - 262144 * k) (drop i bytes)) (omega arith);
      enough = omega arith;
      long = elim ends [
        | inl e ↦ omega arith
        | inr e ↦ omega arith
      ];
      all = elim ends [
        | inl e ↦ omega arith
        | inr e ↦ omega arith
      ];
      few = omega arith;
      last = elim ends [
        | inl e ↦ inl (omega arith)
        | inr e ↦ inr (omega arith)
      ];
    }

-- it is the k-th piece of 512 units
pub cut_piece : (bytes : List ℕ) (k to : ℕ) → (to ≡ 262144 * k + 262144) ⊎ (to ≡ length bytes) → to ≤ 262144 * k + 262144
    → take (to - 262144 * k) (drop (262144 * k) bytes) ≡ piece (512 * 512) k bytes
cut_piece bytes k to ends small = elim ends [
  | inl e ↦
      let size : to - 262144 * k ≡ 262144 = omega arith in
      ap (λ (n : ℕ). take n (drop (262144 * k) bytes)) size
  | inr e ↦ take_all (to - 262144 * k) (drop (262144 * k) bytes) (omega (arith, length-drop (262144 * k) bytes))
      ∙ sym (take_all 262144 (drop (262144 * k) bytes) (omega (arith, length-drop (262144 * k) bytes)))
]
