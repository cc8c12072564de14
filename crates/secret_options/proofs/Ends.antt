-- The end of a walk over the arguments, and a walk over arguments that name no file.
use Rattle.std.specs.Prelude.{option_map}
use Rattle.std.proofs.Common.{◌≡◌, ◌≢◌, ◌∙◌, ◌≤◌, ℕ, ap, sym, refl, arith, List, [], ◌∷◌, true, Some, None, map, drop, length}
use Rattle.std.proofs.lemmas.List.{drop_all, append-nil}
use Rattle.std.specs.List.{list_all}
use Rattle.std.specs.Option.{option_map_or}
use Rattle.secret_options.specs.declared.secret.Secret.{Secret}
use Rattle.secret_options.specs.declared.arguments.State.{State}
use Rattle.secret_options.specs.declared.arguments.State.TheVariants as state
use Rattle.secret_options.specs.Arguments.{Part, Text, filled, names_no_file, parts, plain}
use Rattle.secret_options.specs.Laws.{after, left}

some_same : {A : Type 0} (x y : A) → Some x ≡ Some y → x ≡ y
some_same x y e = ap (λ o. option_map_or (λ a. a) o x) e

-- ---- the end

found_all : {A : Type 0} (found : List A) → after found (Some []) ≡ Some found
found_all found = ap (λ ps. Some ps) (append-nil found)

open_end : (found : List Part) (secret : Secret) → after found (left (state.Path secret) []) ≡ None
unfolding parts
open_end found secret = refl

closed_end : (found : List Part) (s : State) → ((secret : Secret) → s ≢ state.Path secret)
    → after found (left s []) ≡ Some found
unfolding parts
closed_end found state.Free closed = found_all found
closed_end found (state.Path secret) closed = absurd (closed secret refl)
closed_end found state.Ended closed = found_all found

-- what is left when all arguments are read
module _ {A : Type 0} (f : A → Text) (found : List Part) (s : State) (i : ℕ) (xs : List A)
    (past : length xs ≤ i) (walked : parts None (map f xs) ≡ after found (left s (map f (drop i xs)))) where
  at_end : parts None (map f xs) ≡ after found (left s [])
  at_end = walked ∙ ap (λ ys. after found (left s (map f ys))) (drop_all i xs past)

  -- an option awaits its path
  pub ends_open : (secret : Secret) → s ≡ state.Path secret → parts None (map f xs) ≡ None
  ends_open secret is = at_end ∙ ap (λ t. after found (left t [])) is ∙ open_end found secret

  -- all is found
  pub ends_closed : ((secret : Secret) → s ≢ state.Path secret) → parts None (map f xs) ≡ Some found
  ends_closed closed = at_end ∙ closed_end found s closed

-- ---- arguments that name no file

pub unchanged : (words : List Text) → list_all names_no_file words ≡ true
    → parts None words ≡ Some (map (λ w. plain w) words)
unfolding parts
unchanged [] e = refl
unchanged (word ∷ words) e = grind (arith, unchanged words)

pub found_unchanged : (words : List Text) (found : List Part) → parts None words ≡ Some found
    → list_all names_no_file words ≡ true → found ≡ map (λ w. plain w) words
found_unchanged words found is e = some_same _ _ (sym is ∙ unchanged words e)

-- ---- the end of filling

pub filled_whole : {A : Type 0} (f : A → Part) (words : List Text) (i : ℕ) (xs : List A) (secrets left : List Text)
    → length xs ≤ i → filled (map f xs) secrets ≡ after words (filled (map f (drop i xs)) left)
    → filled (map f xs) secrets ≡ Some words
unfolding filled
filled_whole f words i xs secrets left past walked =
    walked ∙ ap (λ ys. after words (filled (map f ys) left)) (drop_all i xs past) ∙ found_all words

-- ---- filling where nothing is to be filled in

filled_plain : (words secrets : List Text) → filled (map (λ w. plain w) words) secrets ≡ Some words
unfolding filled
filled_plain [] secrets = refl
filled_plain (word ∷ words) secrets = ap (λ o. option_map (λ ws. word ∷ ws) o) (filled_plain words secrets)

pub filled_unchanged : (ps : List Part) (secrets found words : List Text) → filled ps secrets ≡ Some found
    → ps ≡ map (λ w. plain w) words → found ≡ words
filled_unchanged ps secrets found words is e =
    some_same _ _ (sym is ∙ ap (λ qs. filled qs secrets) e ∙ filled_plain words secrets)
