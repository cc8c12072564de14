-- Bytes, as two hexadecimal digits each.
use Rattle.std.proofs.Common.{◌≡◌, ◌∙◌, ◌<◌, ◌+◌, ◌*◌, ℕ, true, zero, suc, refl, ap₂, arith, List, [], ◌∷◌, length, get_or, ltb-true}
use Rattle.std.specs.Prelude.{nat_lt}
use Rattle.std.specs.List.{list_all}
use Rattle.std.specs.Char.{digit_value}
use Rattle.clap.proofs.WalkLemmas.{both}
use Rattle.cmd_words.specs.Line.{bytes_in}

-- each digit of a text of digits
pub digit_at : (ds : List ℕ) (k : ℕ) → list_all (λ c. nat_lt (digit_value c) 16) ds ≡ true → k < length ds → digit_value (get_or ds k 0) < 16
digit_at [] k e lt = absurd (omega arith)
digit_at (d ∷ ds) zero e lt = ltb-true (digit_value d) 16 (both _ _ e).0
digit_at (d ∷ ds) (suc k) e lt = digit_at ds k (both _ _ e).1 (omega arith)

-- a list whose bytes are those of two digits each
pub bytes_are : (bs ds : List ℕ) → length ds ≡ 2 * length bs
    → ((k : ℕ) → k < length bs → get_or bs k 0 ≡ 16 * digit_value (get_or ds (2 * k) 0) + digit_value (get_or ds (2 * k + 1) 0)) → bs ≡ bytes_in ds
unfolding bytes_in
bytes_are [] [] e each = refl
bytes_are [] (d ∷ ds) e each = absurd (omega arith)
bytes_are (b ∷ bs) [] e each = absurd (omega arith)
bytes_are (b ∷ bs) (d ∷ []) e each = absurd (omega arith)
bytes_are (b ∷ bs) (high ∷ low ∷ rest) e each =
    ap₂ (λ x xs. x ∷ xs) (each 0 (omega arith)) (bytes_are bs rest (omega arith) (λ k lt.
    let first : 2 * suc k ≡ suc (suc (2 * k)) = omega arith in
    let second : 2 * suc k + 1 ≡ suc (suc (2 * k + 1)) = omega arith in
    each (suc k) (omega arith)
    ∙ (λ i. 16 * digit_value (get_or (high ∷ low ∷ rest) (first i) 0) + digit_value (get_or (high ∷ low ∷ rest) (second i) 0))))
