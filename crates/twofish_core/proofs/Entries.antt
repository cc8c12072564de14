-- Tables that are filled from their first entry on.
use Rattle.std.proofs.Common.{◌≡◌, ◌<◌, ◌≤◌, ◌+◌, List, ℕ, length, slice_set, sym, ap, ◌∙◌, arith, inl, inr}
use Rattle.std.proofs.lemmas.Bool.{cases_eq}
use Rattle.std.proofs.lemmas.Grind.{get_or-set_at}
use Rattle.std.proofs.lemmas.List.{get_or-set_other, length-set}
use Rattle.twofish_core.specs.Laws.Columns.{HasEntries}

pub entries_none : (f : ℕ → ℕ) (table : List ℕ) → length table ≡ 256 → HasEntries 0 f table
entries_none f table long = record { long = long; at = λ b below. absurd (omega arith) }

pub entries_more : (n x : ℕ) (f : ℕ → ℕ) (table : List ℕ) → HasEntries n f table → n < 256
    → x ≡ f n → HasEntries (n + 1) f (slice_set table n x)
entries_more n x f table has inside is = record {
  long = length-set table n x ∙ has.long;
  at = λ b below. elim (cases_eq b n) [
    | inl same ↦ get_or-set_at table n b x 0 same (omega (arith, has.long)) ∙ is ∙ ap f (sym same)
    | inr other ↦ get_or-set_other table n b x 0 other ∙ has.at b (omega arith)
  ];
}

pub entries_all : (n : ℕ) (f : ℕ → ℕ) (table : List ℕ) → HasEntries n f table → 256 ≤ n
    → HasEntries 256 f table
entries_all n f table has past = record { long = has.long; at = λ b below. has.at b (omega arith) }
