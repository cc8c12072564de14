-- What a word looks like to the definition of a line and to the parser. A word that passes
-- `is_long_or_plain` begins with no hyphen, or with two and something after them.
use Rattle.std.proofs.Common.{◌≡◌, ◌⊎◌, ◌&&◌, ◌||◌, ◌==◌, ℕ, Bool, true, false, cond, not, sym, refl, ap, inl, inr, true≢false, eqb-true, [], ◌∷◌, Some, None}
use Rattle.std.specs.Prelude.{option_and_then, nat_lt}
use Rattle.std.specs.Str.{bytes_eq}
use Rattle.clap.specs.Lexer.{long_of, long_of_rest, short_of, short_of_rest, strip_byte}
use Rattle.cmd_words.specs.Line.{Text, begins_with_hyphen}
use Rattle.cmd_words.specs.Laws.{is_long_or_plain}

abbrev pub hyphens : Text
hyphens = 45 ∷ 45 ∷ []

abbrev pub IsLong : Text → Type 0
IsLong w = (x : ℕ) × (xs : Text) × (w ≡ 45 ∷ 45 ∷ x ∷ xs)

abbrev pub Looks : Text → Type 0
Looks w = (begins_with_hyphen w ≡ false) ⊎ IsLong w

pub looks : (w : Text) → is_long_or_plain w ≡ true → Looks w
looks [] e = inl refl
looks (c ∷ []) e = go (c == 45) refl e
  where
    go : (b : Bool) → (c == 45) ≡ b → (not b || ((b && false) && false)) ≡ true → Looks (c ∷ [])
    go false is e = inl is
    go true is e = absurd (true≢false (sym e))
looks (c ∷ d ∷ []) e = go (c == 45) (d == 45) refl e
  where
    go : (a b : Bool) → (c == 45) ≡ a → (not a || ((a && b) && false)) ≡ true → Looks (c ∷ d ∷ [])
    go false b is e = inl is
    go true false is e = absurd (true≢false (sym e))
    go true true is e = absurd (true≢false (sym e))
looks (c ∷ d ∷ x ∷ xs) e = go (c == 45) (d == 45) refl refl (nat_lt 2 _) e
  where
    go : (a b : Bool) → (c == 45) ≡ a → (d == 45) ≡ b → (l : Bool) → (not a || ((a && b) && l)) ≡ true → Looks (c ∷ d ∷ x ∷ xs)
    go false b is at l e = inl is
    go true false is at l e = absurd (true≢false (sym e))
    go true true is at l e = inr (x, xs, λ i. eqb-true c 45 is i ∷ eqb-true d 45 at i ∷ x ∷ xs)

-- a word that begins with no hyphen is no option, no bundle of flags and not `--`
pub plain_long : (w : Text) → begins_with_hyphen w ≡ false → long_of w ≡ None
plain_long [] e = refl
plain_long (c ∷ cs) e = ap (λ b. option_and_then long_of_rest (option_and_then (strip_byte 45) (cond b (Some cs) None))) e

pub plain_short : (w : Text) → begins_with_hyphen w ≡ false → short_of w ≡ None
plain_short [] e = refl
plain_short (c ∷ cs) e = ap (λ b. option_and_then short_of_rest (cond b (Some cs) None)) e

pub plain_hyphens : (w : Text) → begins_with_hyphen w ≡ false → bytes_eq w hyphens ≡ false
plain_hyphens [] e = refl
plain_hyphens (c ∷ cs) e = ap (λ b. b && bytes_eq cs (45 ∷ [])) e
