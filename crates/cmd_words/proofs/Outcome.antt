-- When a parse of a form's command fails, and what rows it has if it doesn't: by what the walk leaves.
use Rattle.std.proofs.Common.{◌≡◌, ◌∙◌, ◌≤◌, ◌&&◌, ◌||◌, ℕ, Bool, true, false, cond, not, ◌+◌, sym, refl, ap, true≢false, List, [], ◌∷◌, ◌++◌, map, length, Some, None}
use Rattle.std.specs.Option.{is_some}
use Rattle.std.specs.List.{count_by, fold, list_all, list_any}
use Rattle.clap.specs.declared.error.kind.ErrorKind.TheVariants as kind
use Rattle.clap.proofs.SimpleLemmas.{is_nil}
use Rattle.clap.proofs.WalkLemmas.{both}
use Rattle.clap.specs.Walk.{Held, Row, Rule, Walk, default_rows, has_row, is_empty, is_early_multiple, nothing_held, reading_by, rows_after, settled, walked, with_default}
use Rattle.clap.specs.Simple.{App, built, is_buildable, is_ready, is_ready_leaf, matches_of, names_of}
use Rattle.clap.specs.Kinds.{Kinds, or_else}
use Rattle.clap.specs.Takes.{is_given}
use Rattle.clap.specs.Faults.{built_fault, check_fault, given_default_fault, is_free_app, default_fault, defaults_fault, fault_of, is_simple_and_free, level_fault, settle_fault, turn_fault, walk_fault}
use Rattle.clap.proofs.FaultLemmas.{leaf_fault}
use Rattle.cmd_words.specs.Line.{Form, Text}
use Rattle.cmd_words.specs.Laws.{app_of, flag_rule, option_rule, place_rule, rules_of}
use Rattle.cmd_words.proofs.Basics.{cond_same, is_true, or_true, same_some, some_none}
use Rattle.cmd_words.proofs.Left.{clean, idle_at, left, shape}
use Rattle.cmd_words.proofs.Built.{built_flag, built_option, built_place, built_places, built_rules, rules_filled}

-- ---- the walk and its end

clean_is : (k : Kinds) → clean k ≡ true → k ≡ []
clean_is [] e = refl
clean_is (k ∷ ks) e = absurd (true≢false (sym e))

abbrev end_of : List Rule → Walk → List Text → Held
end_of c w words = (fold (walked c []) w words).held

-- the walk and its end pass, with these rows
record Passes (c : List Rule) (w : Walk) (words : List Text) (rows : List Row) : Type 0 where
  walk : walk_fault (shape c) [] w words ≡ []
  settles : settle_fault c false (end_of c w words) ≡ []
  rows_are : (settled c (end_of c w words)).rows ≡ rows

left_passes : (c : List Rule) (w : Walk) (words : List Text) (rows : List Row) → left c w words ≡ Some rows → Passes c w words rows
unfolding left walk_fault
left_passes c w [] rows e = go (settle_fault c false w.held) refl e
  where
    go : (k : Kinds) → settle_fault c false w.held ≡ k → cond (clean k) (Some (settled c w.held).rows) None ≡ Some rows → Passes c w [] rows
    go [] is e = record { walk = refl; settles = is; rows_are = same_some _ _ e }
    go (k ∷ ks) is e = absurd (some_none rows e)
left_passes c w (x ∷ xs) rows e = go (turn_fault (shape c) [] w x) refl e (left_passes c (walked c [] w x) xs rows)
  where
    go : (k : Kinds) → turn_fault (shape c) [] w x ≡ k → cond (clean k) (left c (walked c [] w x) xs) None ≡ Some rows
        → (left c (walked c [] w x) xs ≡ Some rows → Passes c (walked c [] w x) xs rows) → Passes c w (x ∷ xs) rows
    go [] is e ih = record {
      walk = ap (λ k. or_else k (walk_fault (shape c) [] (walked c [] w x) xs)) is ∙ (ih e).walk;
      settles = (ih e).settles;
      rows_are = (ih e).rows_are;
    }
    go (k ∷ ks) is e ih = absurd (some_none rows e)

or_both : (a b : Kinds) → or_else a b ≡ [] → (a ≡ []) × (b ≡ [])
or_both [] b e = (refl, e)
or_both (k ∷ ks) b e = absurd (true≢false (sym (ap clean e)))

passes_left : (c : List Rule) (w : Walk) (words : List Text) → walk_fault (shape c) [] w words ≡ [] → settle_fault c false (end_of c w words) ≡ []
    → left c w words ≡ Some (settled c (end_of c w words)).rows
unfolding left walk_fault
passes_left c w [] e s = ap (λ k. cond (clean k) (Some (settled c w.held).rows) None) s
passes_left c w (x ∷ xs) e s =
    let parts = or_both (turn_fault (shape c) [] w x) _ e in
    ap (λ k. cond (clean k) (left c (walked c [] w x) xs) None) parts.0 ∙ passes_left c (walked c [] w x) xs parts.1 s

-- ---- after the walk: no defaults

abbrev has_no_default : Rule → Bool
has_no_default a = is_empty a.defaults

no_default_rows : (rows : List Row) (a : Rule) → has_no_default a ≡ true → with_default rows a ≡ rows
no_default_rows rows a e = ap (λ ds. cond (has_row a.id rows) rows (default_rows a.id (reading_by a) ds rows)) (is_nil a.defaults e) ∙ cond_same _ rows

no_faults : (rows : List Row) (c : List Rule) → list_all has_no_default c ≡ true → defaults_fault rows c ≡ []
unfolding defaults_fault
no_faults rows [] e = refl
no_faults rows (a ∷ rest) e =
    let passes : default_fault rows a ≡ [] = ap (λ b. cond (has_row a.id rows || b) [] (given_default_fault a a.defaults)) (both _ _ e).0
    ∙ ap (λ b. cond b [] (given_default_fault a a.defaults)) (or_true (has_row a.id rows)) in
    ap (λ k. or_else k (defaults_fault (with_default rows a) rest)) passes ∙ no_faults (with_default rows a) rest (both _ _ e).1

no_rows : (rows : List Row) (c : List Rule) → list_all has_no_default c ≡ true → fold with_default rows c ≡ rows
no_rows rows [] e = refl
no_rows rows (a ∷ rest) e = ap (λ r. fold with_default r rest) (no_default_rows rows a (both _ _ e).0) ∙ no_rows rows rest (both _ _ e).1

-- ---- what each rule passes

all_named : (p : Rule → Bool) (g : Text → Rule) (xs : List Text) (rest : List Rule) → ((x : Text) → p (g x) ≡ true) → list_all p rest ≡ true
    → list_all p (map g xs ++ rest) ≡ true
all_named p g [] rest each e = e
all_named p g (x ∷ xs) rest each e = ap (λ b. b && list_all p (map g xs ++ rest)) (each x) ∙ all_named p g xs rest each e

all_places : (p : Rule → Bool) (i : ℕ) (xs : List Text) → ((i : ℕ) (x : Text) → p (built_place i x) ≡ true) → list_all p (built_places i xs) ≡ true
all_places p i [] each = refl
all_places p i (x ∷ xs) each = ap (λ b. b && list_all p (built_places (i + 1) xs)) (each i x) ∙ all_places p (i + 1) xs each

each_built : (p : Rule → Bool) (f : Form) → ((x : Text) → p (built_option x) ≡ true) → ((x : Text) → p (built_flag x) ≡ true)
    → ((i : ℕ) (x : Text) → p (built_place i x) ≡ true) → list_all p (built_rules f) ≡ true
each_built p f option flag place =
    all_named p built_option f.options _ option (all_named p built_flag f.flags _ flag (all_places p 1 f.positions place))

places_simple : (xs : List Text) → list_all (λ (a : Rule). a.is_simple) (map place_rule xs) ≡ true
places_simple [] = refl
places_simple (x ∷ xs) = places_simple xs

rules_simple : (f : Form) → list_all (λ (a : Rule). a.is_simple) (rules_of f) ≡ true
rules_simple f =
    all_named (λ a. a.is_simple) option_rule f.options _ (λ x. refl)
    (all_named (λ a. a.is_simple) flag_rule f.flags _ (λ x. refl) (places_simple f.positions))

none_any : (p : Rule → Bool) (xs : List Rule) → list_all (λ a. not (p a)) xs ≡ true → list_any p xs ≡ false
none_any p [] e = refl
none_any p (x ∷ xs) e = ap (λ b. b || list_any p xs) (is_true (p x) (both _ _ e).0) ∙ none_any p xs (both _ _ e).1

-- ---- the whole parse

abbrev pub is_missing : List Row → Rule → Bool
is_missing rows a = a.required && not (is_given a.id rows)

abbrev pub start : Walk
start = idle_at nothing_held 1

built_is : (f : Form) → length f.positions ≤ 3 → built (app_of f) ≡ record { top = shape (built_rules f); subs = [] }
built_is f few = ap (λ rs. record { top = shape rs; subs = [] }) (rules_filled f few)

level_is : (c : List Rule) (words : List Text) → list_all has_no_default c ≡ true
    → level_fault (shape c) [] nothing_held words false []
    ≡ or_else (walk_fault (shape c) [] start words) (or_else (settle_fault c false (end_of c start words))
    (check_fault (shape c) (settled c (end_of c start words)).rows false))
level_is c words none =
    let rows = (settled c (end_of c start words)).rows in
    λ i. or_else (walk_fault (shape c) [] start words) (or_else (settle_fault c false (end_of c start words))
    (or_else (no_faults rows c none i) (check_fault (shape c) (no_rows rows c none i) false)))

each_no_default : (f : Form) → list_all has_no_default (built_rules f) ≡ true
each_no_default f = each_built has_no_default f (λ x. refl) (λ x. refl) (λ i x. refl)

fault_is : (f : Form) (words : List Text) → length f.positions ≤ 3
    → fault_of (app_of f) words ≡ level_fault (shape (built_rules f)) [] nothing_held words false []
fault_is f words few =
    ap (λ a. built_fault a nothing_held words) (built_is f few)
    ∙ leaf_fault (record { top = shape (built_rules f); subs = [] }) nothing_held words refl

matches_are : (f : Form) (words : List Text) → length f.positions ≤ 3
    → matches_of (app_of f) words ≡ (settled (built_rules f) (end_of (built_rules f) start words)).rows
matches_are f words few =
    ap (λ (a : App). rows_after a.top.rules (names_of a) words) (built_is f few)
    ∙ no_rows _ (built_rules f) (each_no_default f)

-- the command is one of which the definitions of the parser speak
pub simple_and_free : (f : Form) → length f.positions ≤ 3 → is_simple_and_free (app_of f) ≡ true
simple_and_free f few =
    let c = built_rules f in
    let simple = each_built (λ a. a.is_simple) f (λ x. refl) (λ x. refl) (λ i x. refl) in
    let free = each_built (λ a. a.is_free) f (λ x. refl) (λ x. refl) (λ i x. refl) in
    let in_order : list_any (is_early_multiple (count_by (λ (a : Rule). is_some a.index) c)) c ≡ false =
    none_any _ c (each_built (λ a. not (is_early_multiple (count_by (λ (a : Rule). is_some a.index) c) a)) f (λ x. refl) (λ x. refl) (λ i x. refl)) in
    ap (λ a. (is_buildable (app_of f) && (is_ready a.top && list_all is_ready_leaf a.subs)) && is_free_app a) (built_is f few)
    ∙ (λ i. ((rules_simple f i && true) && ((simple i && not (in_order i)) && true)) && (free i && true))

-- nothing that the rules ask for is missing
none_missing : (f : Form) (rows : List Row) → check_fault (shape (built_rules f)) rows false ≡ []
none_missing f rows =
    ap (λ b. cond b (kind.MissingRequiredArgument ∷ []) [])
    (none_any (is_missing rows) (built_rules f) (each_built (λ a. not (is_missing rows a)) f (λ x. refl) (λ x. refl) (λ i x. refl)))

-- a parse that doesn't fail
pub taken : (f : Form) (words : List Text) → length f.positions ≤ 3 → fault_of (app_of f) words ≡ []
    → left (built_rules f) start words ≡ Some (matches_of (app_of f) words)
taken f words few e =
    let c = built_rules f in
    let steps = or_both (walk_fault (shape c) [] start words) _ (sym (fault_is f words few ∙ level_is c words (each_no_default f)) ∙ e) in
    let ends = or_both (settle_fault c false (end_of c start words)) _ steps.1 in
    passes_left c start words steps.0 ends.0 ∙ ap Some (sym (matches_are f words few))

-- if the walk passes, a parse doesn't fail
pub takes : (f : Form) (words : List Text) (rows : List Row) → length f.positions ≤ 3 → left (built_rules f) start words ≡ Some rows
    → fault_of (app_of f) words ≡ []
takes f words rows few e =
    let c = built_rules f in
    let passes = left_passes c start words rows e in
    fault_is f words few ∙ level_is c words (each_no_default f)
    ∙ (λ i. or_else (passes.walk i) (or_else (passes.settles i) (check_fault (shape c) (passes.rows_are i) false)))
    ∙ none_missing f rows
