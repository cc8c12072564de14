-- Small facts on tests, options and texts.
use Rattle.std.proofs.Common.{◌≡◌, ◌∙◌, ◌&&◌, ◌||◌, Bool, true, false, cond, not, refl, sym, ap, true≢false, Option, Some, None, Result, Ok, Err, option_map, is_some, unwrap_or}
use Rattle.std.specs.Str.{bytes_eq}
use Rattle.std.proofs.lemmas.Slice.Eq.{bytes_eq-Decides}
use Rattle.cmd_words.specs.Line.{Text}

-- ---- tests

pub cond_same : {X : Type 0} (b : Bool) (x : X) → cond b x x ≡ x
cond_same true x = refl
cond_same false x = refl

pub and_false : (b : Bool) → (b && false) ≡ false
and_false true = refl
and_false false = refl

pub or_false : (b : Bool) → (b || false) ≡ b
or_false true = refl
or_false false = refl

pub or_true : (b : Bool) → (b || true) ≡ true
or_true true = refl
or_true false = refl

pub or_first : (a b : Bool) → a ≡ true → (a || b) ≡ true
or_first a b e = ap (λ t. t || b) e

pub or_second : (a b : Bool) → b ≡ true → (a || b) ≡ true
or_second a b e = ap (λ t. a || t) e ∙ or_true a

pub is_true : (b : Bool) → not b ≡ true → b ≡ false
is_true true e = absurd (true≢false (sym e))
is_true false e = refl

-- ---- options and results

pub same_some : {X : Type 0} (x y : X) → Some x ≡ Some y → x ≡ y
same_some x y e = ap (λ o. unwrap_or o x) e

pub some_none : {X : Type 0} (x : X) → None ≡ Some x → ⊥
some_none x e = true≢false (sym (ap is_some e))

pub mapped_some : {X Y : Type 0} (g : X → Y) (o : Option X) → is_some o ≡ is_some (option_map g o)
mapped_some g None = refl
mapped_some g (Some x) = refl

err_or : {T E : Type 0} → E → Result T E → E
err_or e (Ok x) = e
err_or e (Err y) = y

pub same_err : {T E : Type 0} (a b : E) → ◌≡◌ {A = Result T E} (Err a) (Err b) → a ≡ b
unfolding err_or
same_err a b e = ap (err_or a) e

-- ---- texts

pub bytes_same : (w : Text) → bytes_eq w w ≡ true
bytes_same w = (bytes_eq-Decides w w).1 refl

pub same_text : (x y : Text) → bytes_eq x y ≡ true → x ≡ y
same_text x y e = (bytes_eq-Decides x y).0 e

pub bytes_turned : (x y : Text) → bytes_eq x y ≡ bytes_eq y x
bytes_turned x y = go (bytes_eq x y) (bytes_eq y x) refl refl
  where
    go : (a b : Bool) → bytes_eq x y ≡ a → bytes_eq y x ≡ b → a ≡ b
    go true true e g = refl
    go false false e g = refl
    go true false e g = sym (ap (λ t. bytes_eq t x) (sym (same_text x y e)) ∙ bytes_same x) ∙ g
    go false true e g = sym e ∙ ap (λ t. bytes_eq x t) (same_text y x g) ∙ bytes_same x
