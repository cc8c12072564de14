-- A text of digits parses to its value if that is below 2^64, and to nothing else.
use Rattle.std.proofs.Common.{◌≡◌, ℕ, ◌<◌, ◌^◌, true, false, List, [], ◌∷◌, length, Result, refl, sym, ap, ◌∙◌, ⊎_elim}
use Rattle.std.specs.Char.{is_ascii_digit}
use Rattle.std.specs.List.{list_all}
use Rattle.std.specs.Str.{all_ascii_digits}
use Rattle.std.specs.Str.Parse.{ParsesUnsigned, digits_value}
use Rattle.std.specs.Result.{OkIff}
use Rattle.std.proofs.lemmas.Str.Parse.{numerals_by_value, tells_all_ascii_digits, parse_digits, IsNumeralModel}
use Rattle.std.specs.Prelude.{◌&&◌, nat_lt}
use Rattle.std.proofs.lemmas.Bool.{cases_lt, le-ltb}

same_test : (bs : List ℕ) → list_all is_ascii_digit bs ≡ all_ascii_digits bs
same_test [] = refl
same_test (b ∷ bs) = ap (λ t. is_ascii_digit b && t) (same_test bs)

digits : IsNumeralModel (λ ds. all_ascii_digits ds ≡ true) (digits_value 10)
digits = numerals_by_value _ tells_all_ascii_digits

pub parses : {E : Type 0} (bs : List ℕ) (r : Result ℕ E) → ParsesUnsigned 64 10 bs r → list_all is_ascii_digit bs ≡ true →
    OkIff r ((0 < length bs) × (digits_value 10 bs < 2 ^ 64)) (digits_value 10 bs)
parses bs r h d = parse_digits digits 64 bs r h (sym (same_test bs) ∙ d)

-- a word of digits that does not parse is too large
pub refused : (bs : List ℕ) → 0 < length bs → ¬ ((0 < length bs) × (digits_value 10 bs < 2 ^ 64)) → nat_lt (digits_value 10 bs) (2 ^ 64) ≡ false
refused bs some h = ⊎_elim (λ lt. absurd (h (some, lt))) (λ le. le-ltb (digits_value 10 bs) (2 ^ 64) le) (cases_lt (digits_value 10 bs) (2 ^ 64))
