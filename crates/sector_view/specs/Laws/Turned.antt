-- A block of bytes that is turned round is one too, and turned round again it is the block.
use Rattle.std.proofs.Common.{◌≡◌, ℕ, ◌-◌, ◌<◌, List, reverse, length, subst, sym, inl, inr, arith, ◌∙◌}
use Rattle.std.proofs.lemmas.Bool.{cases_lt}
use Rattle.std.proofs.lemmas.List.{get_or-reverse, get_or_past, length-reverse, reverse-reverse}
use Rattle.vc_base.specs.Bytes.{IsBytes}

pub turned_back : (b : List ℕ) → reverse (reverse b) ≡ b
turned_back b = reverse-reverse b

pub is_block_turned : (b : List ℕ) → IsBytes 16 b → IsBytes 16 (reverse b)
is_block_turned b is = record {
  count = length-reverse b ∙ is.count;
  each = λ i. elim (cases_lt i (length b)) [
    | inl within ↦ subst (λ x. x < 256) (sym (get_or-reverse b i 0 within)) (is.each (length b - 1 - i))
    | inr past ↦ subst (λ x. x < 256) (sym (get_or_past (reverse b) i 0 (omega (arith, length-reverse b)))) (omega arith)
  ];
}
