-- The rules of a command once it is built, and what a search among them finds.
use Rattle.std.proofs.Common.{◌≡◌, ◌≢◌, ◌∙◌, ◌<◌, ◌≤◌, ◌+◌, ◌&&◌, ◌||◌, ◌==◌, ℕ, Bool, true, false, cond, not, zero, suc, sym, refl, ap, true≢false, arith, List, [], ◌∷◌, ◌++◌, map, length, min, Some, None, option_map, is_some, ne_eqb, eq-eqb, subst}
use Rattle.std.specs.Prelude.{find, slice_get}
use Rattle.std.specs.List.{list_all}
use Rattle.std.specs.Option.{option_map_or}
use Rattle.std.specs.Str.{bytes_eq}
use Rattle.std.proofs.lemmas.List.Folds.{list_any-append}
use Rattle.clap.specs.Lexer.{usize_max}
use Rattle.clap.specs.Walk.{Rule, arg_by_id, arg_by_index, arg_by_long, has_long}
use Rattle.clap.specs.Simple.{filled_from}
use Rattle.clap.specs.declared.builder.value_parser.ValueParser.TheVariants.{String}
use Rattle.clap.proofs.WalkLemmas.{both}
use Rattle.cmd_words.specs.Line.{Form, Text, is_distinct, is_in}
use Rattle.cmd_words.specs.Laws.{flag_rule, is_apart, option_rule, place_rule, rules_of}
use Rattle.cmd_words.proofs.Basics.{bytes_same, is_true, or_false, or_true, same_some, same_text, some_none}
use Rattle.cmd_words.proofs.Left.{AreLeft, IsPlace, Serves, TakesOne}

-- ---- the rules once they are built

abbrev pub built_option : Text → Rule
built_option name = record (option_rule name) {
  parser = Some String;
  range = Some (record { start_inclusive = 1; end_inclusive = 1 });
}

abbrev pub built_flag : Text → Rule
built_flag name = record (flag_rule name) { parser = Some String }

abbrev pub built_place : ℕ → Text → Rule
built_place i name = record (place_rule name) {
  index = Some i;
  parser = Some String;
  range = Some (record { start_inclusive = 1; end_inclusive = 1 });
}

abbrev pub built_places : ℕ → List Text → List Rule
built_places i [] = []
built_places i (x ∷ xs) = built_place i x ∷ built_places (i + 1) xs

abbrev pub built_rules : Form → List Rule
built_rules f = map built_option f.options ++ (map built_flag f.flags ++ built_places 1 f.positions)

fill_options : (xs : List Text) (rest : List Rule) (i : ℕ)
    → filled_from i (map option_rule xs ++ rest) ≡ map built_option xs ++ filled_from i rest
fill_options [] rest i = refl
fill_options (x ∷ xs) rest i = ap (λ rs. built_option x ∷ rs) (fill_options xs rest i)

fill_flags : (xs : List Text) (rest : List Rule) (i : ℕ)
    → filled_from i (map flag_rule xs ++ rest) ≡ map built_flag xs ++ filled_from i rest
fill_flags [] rest i = refl
fill_flags (x ∷ xs) rest i = ap (λ rs. built_flag x ∷ rs) (fill_flags xs rest i)

fill_places : (xs : List Text) (i : ℕ) → i + length xs < usize_max → filled_from i (map place_rule xs) ≡ built_places i xs
fill_places [] i lt = refl
fill_places (x ∷ xs) i lt =
    let next : min (i + 1) usize_max ≡ i + 1 = omega arith in
    ap (λ rs. built_place i x ∷ rs) (ap (λ k. filled_from k (map place_rule xs)) next ∙ fill_places xs (i + 1) (omega arith))

pub rules_filled : (f : Form) → length f.positions ≤ 3 → filled_from 1 (rules_of f) ≡ built_rules f
rules_filled f few =
    fill_options f.options _ 1
    ∙ ap (λ rs. map built_option f.options ++ rs) (fill_flags f.flags _ 1
    ∙ ap (λ rs. map built_flag f.flags ++ rs) (fill_places f.positions 1 (omega arith)))

-- ---- a search among rules that are made of names

finds : (p : Rule → Bool) (g : Text → Rule) (name : Text) (xs : List Text) (rest : List Rule) → ((x : Text) → p (g x) ≡ bytes_eq x name)
    → is_in name xs ≡ true → find p (map g xs ++ rest) ≡ Some (g name)
finds p g name [] rest e h = absurd (true≢false (sym h))
finds p g name (x ∷ xs) rest e h = go (bytes_eq x name) refl (finds p g name xs rest e)
  where
    go : (b : Bool) → bytes_eq x name ≡ b → (is_in name xs ≡ true → find p (map g xs ++ rest) ≡ Some (g name)) → find p (map g (x ∷ xs) ++ rest) ≡ Some (g name)
    go true is ih = ap (λ b. cond b (Some (g x)) (find p (map g xs ++ rest))) (e x ∙ is) ∙ ap (λ y. Some (g y)) (same_text x name is)
    go false is ih = ap (λ b. cond b (Some (g x)) (find p (map g xs ++ rest))) (e x ∙ is) ∙ ih (sym (ap (λ b. b || is_in name xs) is) ∙ h)

skips : (p : Rule → Bool) (g : Text → Rule) (name : Text) (xs : List Text) (rest : List Rule) → ((x : Text) → p (g x) ≡ bytes_eq x name)
    → is_in name xs ≡ false → find p (map g xs ++ rest) ≡ find p rest
skips p g name [] rest e h = refl
skips p g name (x ∷ xs) rest e h = go (bytes_eq x name) refl (skips p g name xs rest e)
  where
    go : (b : Bool) → bytes_eq x name ≡ b → (is_in name xs ≡ false → find p (map g xs ++ rest) ≡ find p rest) → find p (map g (x ∷ xs) ++ rest) ≡ find p rest
    go true is ih = absurd (true≢false (sym (ap (λ b. b || is_in name xs) is) ∙ h))
    go false is ih = ap (λ b. cond b (Some (g x)) (find p (map g xs ++ rest))) (e x ∙ is) ∙ ih (sym (ap (λ b. b || is_in name xs) is) ∙ h)

passes_over : (p : Rule → Bool) (g : Text → Rule) (xs : List Text) (rest : List Rule) → ((x : Text) → p (g x) ≡ false)
    → find p (map g xs ++ rest) ≡ find p rest
passes_over p g [] rest e = refl
passes_over p g (x ∷ xs) rest e = ap (λ b. cond b (Some (g x)) (find p (map g xs ++ rest))) (e x) ∙ passes_over p g xs rest e

-- no position has a long name
no_long : (name : Text) (i : ℕ) (xs : List Text) → arg_by_long (built_places i xs) name ≡ None
no_long name i [] = refl
no_long name i (x ∷ xs) = no_long name (i + 1) xs

-- the position at a place
at_place : (p i q : ℕ) (xs : List Text) → p ≡ i + q → arg_by_index (built_places i xs) p ≡ option_map (built_place p) (slice_get xs q)
at_place p i q [] e = refl
at_place p i zero (x ∷ xs) e =
    let same : i ≡ p = omega arith in
    let here : (i == p) ≡ true = eq-eqb i p same in
    rw here (ap (λ k. Some (built_place k x)) same)
at_place p i (suc q) (x ∷ xs) e =
    let other : i ≢ p = omega arith in
    let miss : (i == p) ≡ false = ne_eqb i p other in
    rw miss (at_place p (i + 1) q xs (omega arith))

option_takes_one : (name : Text) → TakesOne (built_option name)
option_takes_one name = record {
  takes = refl;
  alone = refl;
  single = refl;
  most = refl;
  needs_one = λ rows. refl;
  trailing = refl;
}

place_takes_one : (i : ℕ) (name : Text) → TakesOne (built_place i name)
place_takes_one i name = record {
  takes = refl;
  alone = refl;
  single = refl;
  most = refl;
  needs_one = λ rows. refl;
  trailing = refl;
}

in_places : (xs : List Text) (q : ℕ) (y : Text) → slice_get xs q ≡ Some y → is_in y xs ≡ true
in_places [] q y e = absurd (some_none y e)
in_places (x ∷ xs) zero y e = ap (λ b. b || is_in y xs) (ap (λ t. bytes_eq t y) (same_some x y e) ∙ bytes_same y)
in_places (x ∷ xs) (suc q) y e = ap (λ b. bytes_eq x y || b) (in_places xs q y e) ∙ or_true (bytes_eq x y)

-- the position at a place is found by its name
place_by_id : (p i q : ℕ) (xs : List Text) (y : Text) → p ≡ i + q → is_distinct xs ≡ true → slice_get xs q ≡ Some y
    → arg_by_id (built_places i xs) y ≡ Some (built_place p y)
place_by_id p i q [] y e d at = absurd (some_none y at)
place_by_id p i zero (x ∷ xs) y e d at =
    let same : x ≡ y = same_some x y at in
    let first : i ≡ p = omega arith in
    ap (λ b. cond b (Some (built_place i x)) (arg_by_id (built_places (i + 1) xs) y)) (ap (λ t. bytes_eq t y) same ∙ bytes_same y)
    ∙ (λ j. Some (built_place (first j) (same j)))
place_by_id p i (suc q) (x ∷ xs) y e d at =
    ap (λ b. cond b (Some (built_place i x)) (arg_by_id (built_places (i + 1) xs) y)) (other (bytes_eq x y) refl)
    ∙ place_by_id p (i + 1) q xs y (omega arith) (both _ _ d).1 at
  where
    other : (b : Bool) → bytes_eq x y ≡ b → b ≡ false
    other false is = refl
    other true is =
        absurd (true≢false (sym (ap (λ t. is_in t xs) (same_text x y is) ∙ in_places xs q y at) ∙ is_true (is_in x xs) (both _ _ d).0))

-- a position is found by its name
place_named : (i : ℕ) (xs : List Text) (y : Text) → is_in y xs ≡ true → (k : ℕ) × (arg_by_id (built_places i xs) y ≡ Some (built_place k y))
place_named i [] y e = absurd (true≢false (sym e))
place_named i (x ∷ xs) y e = go (bytes_eq x y) refl (place_named (i + 1) xs y)
  where
    go : (b : Bool) → bytes_eq x y ≡ b → (is_in y xs ≡ true → (k : ℕ) × (arg_by_id (built_places (i + 1) xs) y ≡ Some (built_place k y)))
        → (k : ℕ) × (arg_by_id (built_places i (x ∷ xs)) y ≡ Some (built_place k y))
    go true is ih = (
      i,
      ap (λ b. cond b (Some (built_place i x)) (arg_by_id (built_places (i + 1) xs) y)) is ∙ ap (λ t. Some (built_place i t)) (same_text x y is),
    )
    go false is ih =
        let rest = ih (sym (ap (λ b. b || is_in y xs) is) ∙ e) in
        (rest.0, ap (λ b. cond b (Some (built_place i x)) (arg_by_id (built_places (i + 1) xs) y)) is ∙ rest.1)

-- a name of the list passes what each passes
pub pick : (p : Text → Bool) (name : Text) (xs : List Text) → list_all p xs ≡ true → is_in name xs ≡ true → p name ≡ true
pick p name [] all h = absurd (true≢false (sym h))
pick p name (x ∷ xs) all h = go (bytes_eq x name) refl (pick p name xs (both _ _ all).1)
  where
    go : (b : Bool) → bytes_eq x name ≡ b → (is_in name xs ≡ true → p name ≡ true) → p name ≡ true
    go true is ih = ap p (sym (same_text x name is)) ∙ (both _ _ all).0
    go false is ih = ih (sym (ap (λ b. b || is_in name xs) is) ∙ h)

module _ (f : Form) (apart : is_apart f ≡ true) where
  abbrev c : List Rule
  c = built_rules f

  pub flag_is_no_option : (name : Text) → is_in name f.flags ≡ true → is_in name f.options ≡ false
  flag_is_no_option name g = is_true _ (pick (λ name. not (is_in name f.options)) name f.flags (both _ _ apart).0 g)

  pub option_is_no_flag : (name : Text) → is_in name f.options ≡ true → is_in name f.flags ≡ false
  option_is_no_flag name o = go (is_in name f.flags) refl
    where
      go : (b : Bool) → is_in name f.flags ≡ b → is_in name f.flags ≡ false
      go false g = g
      go true g = absurd (true≢false (sym o ∙ flag_is_no_option name g))

  pub place_is_no_name : (name : Text) → is_in name f.positions ≡ true → (is_in name f.options ≡ false) × (is_in name f.flags ≡ false)
  place_is_no_name name g =
      let e = pick (λ place. not (is_in place f.options) && not (is_in place f.flags)) name f.positions (both _ _ (both _ _ apart).1).0 g in
      (is_true _ (both _ _ e).0, is_true _ (both _ _ e).1)

  last_apart : (is_distinct f.positions && (not (is_in [] f.options) && not (is_in [] f.flags))) ≡ true
  last_apart = (both _ _ (both _ _ apart).1).1

  places_distinct : is_distinct f.positions ≡ true
  places_distinct = (both _ _ last_apart).0

  pub no_empty_option : is_in [] f.options ≡ false
  no_empty_option = is_true _ (both _ _ (both (is_distinct f.positions) _ last_apart).1).0

  pub no_empty_flag : is_in [] f.flags ≡ false
  no_empty_flag = is_true _ (both (not (is_in [] f.options)) _ (both (is_distinct f.positions) _ last_apart).1).1

  -- ---- what is found

  by_long : (name x : Text) → (not (is_some (built_option x).index) && has_long (built_option x) name) ≡ bytes_eq x name
  by_long name x = or_false (bytes_eq x name)

  by_long_flag : (name x : Text) → (not (is_some (built_flag x).index) && has_long (built_flag x) name) ≡ bytes_eq x name
  by_long_flag name x = or_false (bytes_eq x name)

  -- an option, a flag and a position by its name
  pub option_named : (name : Text) → is_in name f.options ≡ true → arg_by_id c name ≡ Some (built_option name)
  option_named name o = finds (λ a. bytes_eq a.id name) built_option name f.options _ (λ x. refl) o

  pub flag_named : (name : Text) → is_in name f.flags ≡ true → arg_by_id c name ≡ Some (built_flag name)
  flag_named name g =
      skips (λ a. bytes_eq a.id name) built_option name f.options _ (λ x. refl) (flag_is_no_option name g)
      ∙ finds (λ a. bytes_eq a.id name) built_flag name f.flags _ (λ x. refl) g

  to_places : (name : Text) → is_in name f.positions ≡ true → arg_by_id c name ≡ arg_by_id (built_places 1 f.positions) name
  to_places name g =
      skips (λ a. bytes_eq a.id name) built_option name f.options _ (λ x. refl) (place_is_no_name name g).0
      ∙ skips (λ a. bytes_eq a.id name) built_flag name f.flags _ (λ x. refl) (place_is_no_name name g).1

  pub position_named : (name : Text) → is_in name f.positions ≡ true → (k : ℕ) × (arg_by_id c name ≡ Some (built_place k name))
  position_named name g = let found = place_named 1 f.positions name g in (found.0, to_places name g ∙ found.1)

  -- the position at a place, which is counted from 1
  place_found : (q : ℕ) → arg_by_index c (q + 1) ≡ option_map (built_place (q + 1)) (slice_get f.positions q)
  place_found q =
      passes_over (λ a. option_map_or (λ k. k == q + 1) a.index false) built_option f.options _ (λ x. refl)
      ∙ passes_over (λ a. option_map_or (λ k. k == q + 1) a.index false) built_flag f.flags _ (λ x. refl)
      ∙ at_place (q + 1) 1 q f.positions (omega arith)

  place_at : (q : ℕ) (name : Text) → slice_get f.positions q ≡ Some name → q < 4 → IsPlace c (q + 1) name
  place_at q name at few = record {
    rule = built_place (q + 1) name;
    found = place_found q ∙ ap (option_map (built_place (q + 1))) at;
    named = named;
    by_id = named;
    one = place_takes_one (q + 1) name;
    next = omega arith;
  }
    where
      named : arg_by_id c name ≡ Some (built_place (q + 1) name)
      named = to_places name (in_places f.positions q name at) ∙ place_by_id (q + 1) 1 q f.positions name (omega arith) places_distinct at

  left_from : (q : ℕ) (names : List Text) → ((k : ℕ) → slice_get f.positions (k + q) ≡ slice_get names k) → q + length names ≤ 3
      → AreLeft c (q + 1) names
  left_from q [] same few = place_found q ∙ ap (option_map (built_place (q + 1))) ((let here : q ≡ 0 + q = omega arith in ap (slice_get f.positions) here) ∙ same 0)
  left_from q (name ∷ names) same few = (
    place_at q name ((let here : q ≡ 0 + q = omega arith in ap (slice_get f.positions) here) ∙ same 0) (omega arith),
    left_from (q + 1) names (λ k. (let next : k + (q + 1) ≡ suc k + q = omega arith in ap (slice_get f.positions) next) ∙ same (suc k)) (omega arith),
  )

  -- all positions are left at the start
  pub all_left : length f.positions ≤ 3 → AreLeft c 1 f.positions
  all_left few = left_from 0 f.positions (λ k. (let same : k + 0 ≡ k = omega arith in ap (slice_get f.positions) same)) (omega arith)

  pub serves : Serves c f
  serves = record {
    option = λ name o. record {
      rule = built_option name;
      found = finds (λ a. not (is_some a.index) && has_long a name) built_option name f.options _ (by_long name) o;
      named = option_named name o;
      by_id = option_named name o;
      one = option_takes_one name;
    };
    flag = λ name g. record {
      rule = built_flag name;
      found = skips (λ a. not (is_some a.index) && has_long a name) built_option name f.options _ (by_long name) (flag_is_no_option name g)
          ∙ finds (λ a. not (is_some a.index) && has_long a name) built_flag name f.flags _ (by_long_flag name) g;
      named = flag_named name g;
      none = refl;
    };
    apart = option_is_no_flag;
    other = λ name o g.
        skips (λ a. not (is_some a.index) && has_long a name) built_option name f.options _ (by_long name) o
        ∙ skips (λ a. not (is_some a.index) && has_long a name) built_flag name f.flags _ (by_long_flag name) g ∙ no_long name 1 f.positions;
  }
