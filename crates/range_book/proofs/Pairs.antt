-- If a relation holds of all pairs of a list, earlier before later, it does so with an element put in at place i
-- if it holds between each earlier one and the new one, and between the new one and each later one.
--
-- Below i the new list has the old elements at their places, and above i at the places before.
use Rattle.std.proofs.Common.{◌≡◌, ℕ, ◌+◌, ◌-◌, ◌<◌, ◌≤◌, List, length, get_or, ap, sym, ◌∙◌, subst, inl, inr, arith}
use Rattle.std.proofs.lemmas.Bool.{cases_order}
use Rattle.std.proofs.lemmas.List.Edits.{length-insert, get_or-insert_below, get_or-insert_at, get_or-insert_above}
use Rattle.std.specs.List.{AllPairs, insert}

inserted_at : {X : Type 0} (xs : List X) (i k : ℕ) (y d : X) → k ≡ i → i ≤ length xs → get_or (insert xs i y) k d ≡ y
inserted_at xs i k y d is le = ap (λ n. get_or (insert xs i y) n d) is ∙ get_or-insert_at xs i y d le

inserted_above : {X : Type 0} (xs : List X) (i k : ℕ) (y d : X) → i < k → i ≤ length xs
    → get_or (insert xs i y) k d ≡ get_or xs (k - 1) d
inserted_above xs i k y d lt le =
    let is : k ≡ (k - 1) + 1 = omega arith in
    ap (λ n. get_or (insert xs i y) n d) is ∙ get_or-insert_above xs i y d (k - 1) (omega arith) le

related : {X : Type 0} (R : X → X → Type 0) (a a' b b' : X) → a ≡ a' → b ≡ b' → R a' b' → R a b
related R a a' b b' e f h = subst (λ x. R x b) (sym e) (subst (λ x. R a' x) (sym f) h)

pub all_pairs_insert : {X : Type 0} (R : X → X → Type 0) (xs : List X) (i : ℕ) (y : X) → AllPairs R xs → i ≤ length xs
    → ((k : ℕ) (d : X) → k < i → R (get_or xs k d) y)
    → ((k : ℕ) (d : X) → i ≤ k → k < length xs → R y (get_or xs k d))
    → AllPairs R (insert xs i y)
all_pairs_insert R xs i y pairs le before after p q d lt within =
    let count = length-insert xs i y le in
    elim (cases_order q i) [
      | inl at ↦ let below : p < i = omega arith in
          related R _ (get_or xs p d) _ y (get_or-insert_below xs i y d p below le) (inserted_at xs i q y d at le) (before p d below)
      | inr other ↦ elim other [
        | inl below ↦ let first : p < i = omega arith in
            related R _ (get_or xs p d) _ (get_or xs q d) (get_or-insert_below xs i y d p first le)
            (get_or-insert_below xs i y d q below le) (pairs p q d lt (omega arith))
        | inr above ↦ let last = inserted_above xs i q y d above le in
            elim (cases_order p i) [
              | inl at ↦ related R _ y _ (get_or xs (q - 1) d) (inserted_at xs i p y d at le) last
                  (after (q - 1) d (omega arith) (omega arith))
              | inr unequal ↦ elim unequal [
                | inl below ↦ related R _ (get_or xs p d) _ (get_or xs (q - 1) d) (get_or-insert_below xs i y d p below le) last
                    (pairs p (q - 1) d (omega arith) (omega arith))
                | inr over ↦ related R _ (get_or xs (p - 1) d) _ (get_or xs (q - 1) d) (inserted_above xs i p y d over le) last
                    (pairs (p - 1) (q - 1) d (omega arith) (omega arith))
              ]
            ]
      ]
    ]
