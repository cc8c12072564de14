-- Rows times columns, from the last product on.
use Rattle.std.proofs.Common.{◌≡◌, ◌<◌, ◌≤◌, List, ◌∷◌, ℕ, suc, length, drop, get_or, bit_xor, refl, sym, ap, ap₂, ◌∙◌}
use Rattle.std.proofs.lemmas.List.{drop_all}
use Rattle.std.proofs.Math.Seq.{drop-cons}
use Rattle.vc_base.specs.Polynomial.{product}
use Rattle.twofish_core.specs.Twofish.{row_times}

-- past the last product nothing is added
pub row_times-none : (m : ℕ) (row x : List ℕ) (i : ℕ) → length row ≤ i
    → 0 ≡ row_times m (drop i row) (drop i x)
unfolding row_times
row_times-none m row x i past =
    ap (λ (rest : List ℕ). row_times m rest (drop i x)) (sym (drop_all i row past))

first_product : (m a b : ℕ) (row x : List ℕ)
    → bit_xor (product 8 m a b) (row_times m row x) ≡ row_times m (a ∷ row) (b ∷ x)
unfolding row_times
first_product m a b row x = refl

-- product i goes before those from j on
pub row_times-more : (m : ℕ) (row x : List ℕ) (i j : ℕ) → i < length row → i < length x → suc i ≡ j
    → bit_xor (product 8 m (get_or row i 0) (get_or x i 0)) (row_times m (drop j row) (drop j x))
    ≡ row_times m (drop i row) (drop i x)
row_times-more m row x i j in_row in_x next =
    let here : ℕ = product 8 m (get_or row i 0) (get_or x i 0) in
    ap (λ (k : ℕ). bit_xor here (row_times m (drop k row) (drop k x))) (sym next)
    ∙ first_product m (get_or row i 0) (get_or x i 0) (drop (suc i) row) (drop (suc i) x)
    ∙ sym (ap₂ (row_times m) (drop-cons row i 0 in_row) (drop-cons x i 0 in_x))
