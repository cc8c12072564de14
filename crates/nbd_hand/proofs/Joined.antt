-- A reply whose parts were added one after another.
use Rattle.std.proofs.Common.{◌≡◌, ℕ, List, ◌++◌, append_assoc, ap, ◌∙◌}

pub four_joined : (o p q r old a b c d : List ℕ) → o ≡ old ++ a → p ≡ o ++ b → q ≡ p ++ c → r ≡ q ++ d → r ≡ old ++ (a ++ (b ++ (c ++ d)))
four_joined o p q r old a b c d first second third fourth =
    fourth
    ∙ ap (λ (s : List ℕ). s ++ d) (third ∙ ap (λ (s : List ℕ). s ++ c) (second ∙ ap (λ (s : List ℕ). s ++ b) first))
    ∙ append_assoc ((old ++ a) ++ b) c d
    ∙ append_assoc (old ++ a) b (c ++ d)
    ∙ append_assoc old a (b ++ (c ++ d))
