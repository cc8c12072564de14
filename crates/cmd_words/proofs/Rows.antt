-- The rows that uses add: one each, at the end, under its name. They can all be added if and only if
-- no name is used twice, and then the rows say what is used.
use Rattle.std.proofs.Common.{◌≡◌, ◌∙◌, ◌&&◌, ◌||◌, ℕ, Bool, true, false, cond, not, sym, refl, ap, true≢false, List, [], ◌∷◌, ◌++◌, map, Option, Some, None, is_some, append-nil, append_assoc}
use Rattle.std.specs.Prelude.{find, option_and_then}
use Rattle.std.specs.List.{list_all, slice_index_or}
use Rattle.std.specs.Option.{option_or}
use Rattle.std.specs.Str.{bytes_eq}
use Rattle.std.proofs.lemmas.List.Folds.{find-append}
use Rattle.clap.specs.Walk.{Row, Rule, has_row, is_empty, more_values, with_values, without}
use Rattle.clap.specs.Kinds.{or_else}
use Rattle.clap.specs.declared.error.kind.ErrorKind.TheVariants as kind
use Rattle.clap.specs.declared.parser.matches.ValueSource.TheVariants.{CommandLine}
use Rattle.clap.specs.declared.builder.value_parser.Reading.TheVariants as reading
use Rattle.clap.proofs.SimpleLemmas.{is_nil}
use Rattle.clap.proofs.WalkLemmas.{both}
use Rattle.cmd_words.specs.Line.{Form, Text, Use, is_distinct, is_in, names_of}
use Rattle.cmd_words.specs.Laws.{is_apart, use_found}
use Rattle.cmd_words.proofs.Basics.{bytes_turned}
use Rattle.cmd_words.proofs.Left.{add_use, added, clean}
use Rattle.cmd_words.proofs.Built.{built_flag, built_option, built_place, built_rules, flag_is_no_option, flag_named, option_is_no_flag, option_named, place_is_no_name, position_named}

-- ---- rows

abbrev pub entry : Text → List Text → Row
entry id vs = record { id = id; values = vs; count = None; source = Some CommandLine; reading = reading.AsWritten }

-- the row of an id
abbrev pub row_at : Text → List Row → Option Row
row_at id rows = find (λ r. bytes_eq r.id id) rows

has_is : (id : Text) (rows : List Row) → has_row id rows ≡ is_some (row_at id rows)
has_is id [] = refl
has_is id (r ∷ rs) = go (bytes_eq r.id id) (has_is id rs)
  where
    go : (b : Bool) → has_row id rs ≡ is_some (row_at id rs) → (b || has_row id rs) ≡ is_some (cond b (Some r) (row_at id rs))
    go true e = refl
    go false e = e

-- a new id changes nothing that is there, and comes last
without_none : (id : Text) (rows : List Row) → has_row id rows ≡ false → without id rows ≡ rows
without_none id [] e = refl
without_none id (r ∷ rs) e = go (bytes_eq r.id id) refl (without_none id rs)
  where
    go : (b : Bool) → bytes_eq r.id id ≡ b → (has_row id rs ≡ false → without id rs ≡ rs) → without id (r ∷ rs) ≡ r ∷ rs
    go true is ih = absurd (true≢false (sym (ap (λ b. b || has_row id rs) is) ∙ e))
    go false is ih = ap (λ b. cond b rs (r ∷ without id rs)) is ∙ ap (λ xs. r ∷ xs) (ih (sym (ap (λ b. b || has_row id rs) is) ∙ e))

comes_last : (id : Text) (vs : List Text) (rows : List Row) → has_row id rows ≡ false
    → with_values id reading.AsWritten CommandLine vs rows ≡ rows ++ entry id vs ∷ []
comes_last id vs [] e = refl
comes_last id vs (r ∷ rs) e = go (bytes_eq r.id id) refl (comes_last id vs rs)
  where
    go : (b : Bool) → bytes_eq r.id id ≡ b → (has_row id rs ≡ false → with_values id reading.AsWritten CommandLine vs rs ≡ rs ++ entry id vs ∷ [])
        → with_values id reading.AsWritten CommandLine vs (r ∷ rs) ≡ (r ∷ rs) ++ entry id vs ∷ []
    go true is ih = absurd (true≢false (sym (ap (λ b. b || has_row id rs) is) ∙ e))
    go false is ih = ap (λ b. cond b (more_values CommandLine vs r ++ rs) (r ∷ with_values id reading.AsWritten CommandLine vs rs)) is
        ∙ ap (λ xs. r ∷ xs) (ih (sym (ap (λ b. b || has_row id rs) is) ∙ e))

fresh : (id : Text) (vs : List Text) (rows : List Row) → has_row id rows ≡ false
    → with_values id reading.AsWritten CommandLine vs (without id rows) ≡ rows ++ entry id vs ∷ []
fresh id vs rows e = ap (with_values id reading.AsWritten CommandLine vs) (without_none id rows e) ∙ comes_last id vs rows e

-- one use, if it is no second one
abbrev added_row : Text → List Text → List Row → Option (List Row)
added_row id vs rows = cond (is_some (row_at id rows)) None (Some (rows ++ entry id vs ∷ []))

add_new : (id : Text) (vs : List Text) (rows : List Row)
    → cond (clean (or_else (cond (has_row id rows && true) (kind.ArgumentConflict ∷ []) []) []))
    (Some (with_values id reading.AsWritten CommandLine vs (without id rows))) None ≡ added_row id vs rows
add_new id vs rows = go (has_row id rows) refl ∙ ap (λ b. cond b None (Some (rows ++ entry id vs ∷ []))) (has_is id rows)
  where
    go : (b : Bool) → has_row id rows ≡ b → cond (clean (or_else (cond (has_row id rows && true) (kind.ArgumentConflict ∷ []) []) []))
        (Some (with_values id reading.AsWritten CommandLine vs (without id rows))) None ≡ cond (has_row id rows) None (Some (rows ++ entry id vs ∷ []))
    go true is = rw is refl
    go false is = rw is (ap Some (fresh id vs rows is))

add_option : (n v : Text) (rows : List Row) → add_use (built_option n) (v ∷ []) rows ≡ added_row n (v ∷ []) rows
add_option n v rows = add_new n (v ∷ []) rows

add_flag : (n : Text) (rows : List Row) → add_use (built_flag n) [] rows ≡ added_row n [] rows
add_flag n rows = add_new n [] rows

add_place : (i : ℕ) (n v : Text) (rows : List Row) → add_use (built_place i n) (v ∷ []) rows ≡ added_row n (v ∷ []) rows
add_place i n v rows = add_new n (v ∷ []) rows

row_more : (m id : Text) (vs : List Text) (rows : List Row) (b : Bool) → bytes_eq id m ≡ b
    → row_at m (rows ++ entry id vs ∷ []) ≡ option_or (row_at m rows) (cond b (Some (entry id vs)) None)
row_more m id vs rows b e = find-append (λ r. bytes_eq r.id m) rows (entry id vs ∷ []) ∙ ap (λ b. option_or (row_at m rows) (cond b (Some (entry id vs)) None)) e

-- ---- uses with a name of the form

-- a use that the words of a line make
abbrev pub is_known : Form → Use → Bool
is_known f u = is_in u.name f.options || (is_in u.name f.positions || (is_in u.name f.flags && is_empty u.value))

-- the values of such a use in its row
abbrev vals : Form → Use → List Text
vals f u = cond (is_in u.name f.flags) [] (u.value ∷ [])

abbrev pub row_for : Form → Use → Row
row_for f u = entry u.name (vals f u)

-- a use of that name is among the rows
abbrev has : List Row → Use → Bool
has rows u = is_some (row_at u.name rows)

or_some : (o : Option Row) (b : Bool) (r : Row) → is_some (option_or o (cond b (Some r) None)) ≡ (is_some o || b)
or_some None true r = refl
or_some None false r = refl
or_some (Some x) b r = refl

module _ (f : Form) where
  -- the uses have names apart from those of the rows and of each other
  are_new : List Row → List Use → Bool
  are_new rows [] = true
  are_new rows (u ∷ us) = not (has rows u) && are_new (rows ++ row_for f u ∷ []) us

  has_more : (rows : List Row) (u v : Use) → has (rows ++ row_for f u ∷ []) v ≡ (has rows v || bytes_eq v.name u.name)
  has_more rows u v =
      ap is_some (row_more v.name u.name (vals f u) rows (bytes_eq u.name v.name) refl)
      ∙ or_some (row_at v.name rows) (bytes_eq u.name v.name) (row_for f u)
      ∙ ap (λ b. has rows v || b) (bytes_turned u.name v.name)

  one_test : (a b x y : Bool) → (not (a || b) && (x && not y)) ≡ ((not a && x) && not (b || y))
  one_test true b x y = refl
  one_test false true true y = refl
  one_test false true false y = refl
  one_test false false x y = refl

  more_apart : (rows : List Row) (u : Use) (us : List Use)
      → list_all (λ v. not (has (rows ++ row_for f u ∷ []) v)) us ≡ (list_all (λ v. not (has rows v)) us && not (is_in u.name (names_of us)))
  more_apart rows u [] = refl
  more_apart rows u (v ∷ vs) =
      (λ i. not (has_more rows u v i) && more_apart rows u vs i)
      ∙ one_test (has rows v) (bytes_eq v.name u.name) (list_all (λ v. not (has rows v)) vs) (is_in u.name (names_of vs))

  next_test : (r a b d : Bool) → (not r && ((a && not b) && d)) ≡ ((not r && a) && (not b && d))
  next_test true a b d = refl
  next_test false true b d = refl
  next_test false false b d = refl

  new_is : (us : List Use) (rows : List Row) → are_new rows us ≡ (list_all (λ u. not (has rows u)) us && is_distinct (names_of us))
  unfolding are_new
  new_is [] rows = refl
  new_is (u ∷ us) rows =
      ap (λ b. not (has rows u) && b) (new_is us (rows ++ row_for f u ∷ []) ∙ ap (λ b. b && is_distinct (names_of us)) (more_apart rows u us))
      ∙ next_test (has rows u) (list_all (λ u. not (has rows u)) us) (is_in u.name (names_of us)) (is_distinct (names_of us))

  none_there : (us : List Use) → list_all (λ u. not (has [] u)) us ≡ true
  none_there [] = refl
  none_there (u ∷ us) = none_there us

  all_new : (us : List Use) → are_new [] us ≡ is_distinct (names_of us)
  all_new us = new_is us [] ∙ ap (λ b. b && is_distinct (names_of us)) (none_there us)

module _ (f : Form) (apart : is_apart f ≡ true) where
  abbrev c : List Rule
  c = built_rules f

  step : (u : Use) (us : List Use) (rows : List Row) → is_known f u ≡ true
      → added c (u ∷ us) rows ≡ option_and_then (added c us) (added_row u.name (vals f u) rows)
  unfolding added
  step u us rows known = go (is_in u.name f.options) (is_in u.name f.positions) (is_in u.name f.flags) refl refl refl known
    where
      go : (o p g : Bool) → is_in u.name f.options ≡ o → is_in u.name f.positions ≡ p → is_in u.name f.flags ≡ g → (o || (p || (g && is_empty u.value))) ≡ true
          → added c (u ∷ us) rows ≡ option_and_then (added c us) (added_row u.name (vals f u) rows)
      go true p g o is at known =
          rw (option_named f apart u.name o, option_is_no_flag f apart u.name o)
          (ap (option_and_then (added c us)) (add_option u.name u.value rows))
      go false true g o is at known =
          let found = position_named f apart u.name is in
          rw (found.1, (place_is_no_name f apart u.name is).1)
          (ap (option_and_then (added c us)) (add_place found.0 u.name u.value rows))
      go false false true o is at known =
          rw (flag_named f apart u.name at, at) (ap (option_and_then (added c us)) (add_flag u.name rows))
      go false false false o is at known = absurd (true≢false (sym known))

  added_all : (us : List Use) (rows : List Row) → list_all (is_known f) us ≡ true
      → added c us rows ≡ cond (are_new f rows us) (Some (rows ++ map (row_for f) us)) None
  unfolding added are_new
  added_all [] rows known = ap Some (sym (append-nil rows))
  added_all (u ∷ us) rows known =
      step u us rows (both _ _ known).0
      ∙ go (has rows u) (added_all us (rows ++ row_for f u ∷ []) (both _ _ known).1)
    where
      go : (b : Bool)
          → added c us (rows ++ row_for f u ∷ []) ≡ cond (are_new f (rows ++ row_for f u ∷ []) us) (Some ((rows ++ row_for f u ∷ []) ++ map (row_for f) us)) None
          → option_and_then (added c us) (cond b None (Some (rows ++ row_for f u ∷ [])))
          ≡ cond (not b && are_new f (rows ++ row_for f u ∷ []) us) (Some (rows ++ map (row_for f) (u ∷ us))) None
      go true ih = refl
      go false ih =
          ih ∙ ap (λ rs. cond (are_new f (rows ++ row_for f u ∷ []) us) (Some rs) None) (append_assoc rows (row_for f u ∷ []) (map (row_for f) us))

  -- from no rows, all uses are added if and only if none is a second one
  pub added_is : (us : List Use) → list_all (is_known f) us ≡ true
      → added c us [] ≡ cond (is_distinct (names_of us)) (Some (map (row_for f) us)) None
  added_is us known = added_all us [] known ∙ ap (λ b. cond b (Some (map (row_for f) us)) None) (all_new f us)

  -- the rows say what is used
  value_kept : (u : Use) → is_known f u ≡ true → slice_index_or (vals f u) 0 [] ≡ u.value
  value_kept u known = go (is_in u.name f.flags) refl
    where
      go : (g : Bool) → is_in u.name f.flags ≡ g → slice_index_or (cond g [] (u.value ∷ [])) 0 [] ≡ u.value
      go false at = refl
      go true at = sym (is_nil u.value (empty (is_in u.name f.positions) refl))
        where
          empty : (p : Bool) → is_in u.name f.positions ≡ p → is_empty u.value ≡ true
          empty true is = absurd (true≢false (sym at ∙ (place_is_no_name f apart u.name is).1))
          empty false is = sym (λ i. flag_is_no_option f apart u.name at i || (is i || (at i && is_empty u.value))) ∙ known

  pub uses_kept : (us : List Use) → list_all (is_known f) us ≡ true → map use_found (map (row_for f) us) ≡ us
  uses_kept [] known = refl
  uses_kept (u ∷ us) known =
      (λ i. record { name = u.name; value = value_kept u (both _ _ known).0 i } ∷ uses_kept us (both _ _ known).1 i)
