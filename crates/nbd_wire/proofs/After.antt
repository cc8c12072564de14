-- A list after another one: what a write to the rest of an array leaves.
use Rattle.std.proofs.Common.{◌≡◌, ℕ, ◌-◌, min, List, ◌++◌, length, drop, append_assoc, length-append, sym, ap, ◌∙◌, arith}
use Rattle.std.proofs.lemmas.List.{append-nil, drop_all, drop_at, length-drop, length-take, take_at}
use borrow.Rule.Slice.PartMut.{mid_of, put_mid}

-- all after the first a elements replaced
pub put_mid-rest : (a k : ℕ) (xs rest ys : List ℕ) → length xs ≡ a → length rest ≡ k → put_mid a k (xs ++ rest) ys ≡ xs ++ ys
put_mid-rest a k xs rest ys before after =
    ap (λ (p : List ℕ). p ++ (ys ++ drop k (drop a (xs ++ rest)))) (take_at xs rest a before)
    ∙ ap (λ (p : List ℕ). xs ++ (ys ++ drop k p)) (drop_at xs rest a before)
    ∙ ap (λ (p : List ℕ). xs ++ (ys ++ p)) (drop_all k rest (omega (arith, after)))
    ∙ ap (λ (p : List ℕ). xs ++ p) (append-nil ys)

-- three writes, each to all after the one before
pub three_parts : (xs ys zs rest₁ rest₂ rest₃ first second third : List ℕ)
    → length xs ≡ 4 → length ys ≡ 4 → length zs ≡ 8 → length rest₁ ≡ 12 → length rest₂ ≡ 8 → length rest₃ ≡ 0
    → first ≡ xs ++ rest₁ → second ≡ ys ++ rest₂ → third ≡ zs ++ rest₃
    → put_mid 8 8 (put_mid 4 12 first second) third ≡ (xs ++ ys) ++ zs
three_parts xs ys zs rest₁ rest₂ rest₃ first second third x y z r₁ r₂ r₃ is₁ is₂ is₃ =
    ap (λ (p : List ℕ). put_mid 8 8 (put_mid 4 12 p second) third) is₁
    ∙ ap (λ (p : List ℕ). put_mid 8 8 p third) (put_mid-rest 4 12 xs rest₁ second x r₁)
    ∙ ap (λ (p : List ℕ). put_mid 8 8 (xs ++ p) third) is₂
    ∙ ap (λ (p : List ℕ). put_mid 8 8 p third) (sym (append_assoc xs ys rest₂))
    ∙ put_mid-rest 8 8 (xs ++ ys) rest₂ third (omega (arith, length-append xs ys)) r₂
    ∙ ap (λ (p : List ℕ). (xs ++ ys) ++ p) is₃
    ∙ ap (λ (p : List ℕ). (xs ++ ys) ++ (zs ++ p)) (drop_all 0 rest₃ (omega (arith, r₃)))
    ∙ ap (λ (p : List ℕ). (xs ++ ys) ++ p) (append-nil zs)

-- what is left of a part after its first n elements
pub length-rest : (n a k : ℕ) (xs : List ℕ) → length (drop n (mid_of a k xs)) ≡ min k (length xs - a) - n
length-rest n a k xs = length-drop n (mid_of a k xs) ∙ ap (λ (m : ℕ). m - n) (length-take k (drop a xs) ∙ ap (min k) (length-drop a xs))

pub length-rest_all : (a k : ℕ) (xs : List ℕ) → length (drop k (mid_of a k xs)) ≡ 0
length-rest_all a k xs = omega (arith, length-rest k a k xs)
