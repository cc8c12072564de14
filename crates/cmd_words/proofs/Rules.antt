-- Rules that are added to a command one by one, and list by list.
use Rattle.std.proofs.Common.{◌≡◌, ◌∙◌, ◌<◌, ◌+◌, ℕ, sym, ap, List, [], ◌∷◌, ◌++◌, map, length, take, append-nil, append_assoc}
use Rattle.std.specs.List.{slice_index_or}
use Rattle.std.specs.Borrow.{Bor}
use Rattle.std.proofs.lemmas.List.{map-append, take-map, take_more}
use Rattle.clap.specs.Walk.{Rule, Text, texts}
use Rattle.clap.specs.Simple.{App, with_rule}
use Rattle.cmd_words.specs.Laws.{with_rules}

-- no rule more
pub rules_none : (a : App) → a ≡ with_rules a []
rules_none a = ap (λ rs. with_rules (record a { top = record a.top { rules = [] } }) rs) (sym (append-nil a.top.rules))

-- the rules of two lists in turn
pub rules_append : (a : App) (xs ys : List Rule) → with_rules (with_rules a xs) ys ≡ with_rules a (xs ++ ys)
rules_append a xs ys = ap (λ rs. record a { top = record a.top { rules = rs } }) (append_assoc a.top.rules xs ys)

-- the rule of one more name
pub rules_more : (f : Text → Rule) (a b d : App) (r : Rule) (names : List (Bor Text)) (i : ℕ) (name : Bor Text)
    → i < length names → b ≡ with_rules a (map f (texts (take i names))) → d ≡ with_rule b r
    → r ≡ f (slice_index_or names i name).now → d ≡ with_rules a (map f (texts (take (i + 1) names)))
rules_more f a b d r names i name lt before added is =
    added ∙ (λ j. with_rule (before j) (is j))
    ∙ rules_append a (map f (texts (take i names))) (f (slice_index_or names i name).now ∷ [])
    ∙ ap (with_rules a) (sym (ap (λ xs. map f (texts xs)) (take_more names i name lt)
    ∙ ap (map f) (map-append (λ (s : Bor Text). s.now) (take i names) (slice_index_or names i name ∷ []))
    ∙ map-append f (texts (take i names)) ((slice_index_or names i name).now ∷ [])))

-- three lists of rules in turn
pub rules_in_turn : (a : App) (ps qs rs : List Rule)
    → with_rules (with_rules (with_rules a ps) qs) rs ≡ with_rules a (ps ++ (qs ++ rs))
rules_in_turn a ps qs rs = rules_append (with_rules a ps) qs rs ∙ rules_append a ps (qs ++ rs)
