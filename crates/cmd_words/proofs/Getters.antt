-- What is given under a name, by what the getters of the matches read.
use Rattle.std.proofs.Common.{◌≡◌, ◌∙◌, true, false, sym, refl, ap, true≢false, List, [], ◌∷◌, map, Option, Some, None, option_map, is_some}
use Rattle.std.specs.Prelude.{find, option_and_then, slice_get}
use Rattle.std.specs.List.{slice_index_or}
use Rattle.std.specs.Str.{bytes_eq}
use Rattle.std.specs.Borrow.{Bor}
use Rattle.clap.specs.Facts.{Entry}
use Rattle.clap.specs.Walk.{Row, row_of, rows_of, texts}
use Rattle.clap.specs.Matches.{first_value, matched_of}
use Rattle.clap.specs.declared.parser.matches.Found.{Found}
use Rattle.clap.specs.declared.parser.matches.MatchedArg.{MatchedArg}
use Rattle.clap.proofs.WalkLemmas.{find-map, find_row}
use Rattle.cmd_words.specs.Line.{Text, Use, value_of}
use Rattle.cmd_words.specs.Laws.{use_found}
use Rattle.cmd_words.proofs.Basics.{same_some, some_none}

value_in_rows : (x : Text) (rows : List Row)
    → value_of x (map use_found rows) ≡ option_map (λ (r : Row). slice_index_or r.values 0 []) (find (λ (r : Row). bytes_eq r.id x) rows)
unfolding value_of
value_in_rows x rows =
    ap (option_map (λ (u : Use). u.value)) (sym (find-map (λ (u : Use). bytes_eq u.name x) use_found rows))
    ∙ twice (find (λ (r : Row). bytes_eq r.id x) rows)
  where
    twice : (o : Option Row) → option_map (λ (u : Use). u.value) (option_map use_found o) ≡ option_map (λ (r : Row). slice_index_or r.values 0 []) o
    twice None = refl
    twice (Some r) = refl

-- the value that is found under a name, by its entry
found_is : (x : Text) (g : Found)
    → value_of x (map use_found (rows_of g)) ≡ option_map (λ (e : Entry). slice_index_or (texts e.1.vals.items) 0 []) (find (λ e. bytes_eq e.0.now x) g.entries.items)
found_is x g =
    value_in_rows x (rows_of g) ∙ ap (option_map (λ (r : Row). slice_index_or r.values 0 [])) (find_row g.entries.items x)
    ∙ go (find (λ e. bytes_eq e.0.now x) g.entries.items)
  where
    go : (o : Option Entry) → option_map (λ (r : Row). slice_index_or r.values 0 []) (option_map row_of o) ≡ option_map (λ (e : Entry). slice_index_or (texts e.1.vals.items) 0 []) o
    go None = refl
    go (Some e) = refl

module _ (x : Text) (g : Found) where
  pub value_some : (t : Text) → first_value g x ≡ Some t → value_of x (map use_found (rows_of g)) ≡ Some t
  value_some t is = found_is x g ∙ go (find (λ e. bytes_eq e.0.now x) g.entries.items) is
    where
      first : (vs : List (Bor Text)) → option_map (λ s. s.now) (slice_get vs 0) ≡ Some t → slice_index_or (texts vs) 0 [] ≡ t
      first [] is = absurd (some_none t is)
      first (v ∷ vs) is = same_some v.now t is

      go : (o : Option Entry) → option_and_then (λ (a : MatchedArg). option_map (λ s. s.now) (slice_get a.vals.items 0)) (option_map (λ e. e.1) o) ≡ Some t
          → option_map (λ (e : Entry). slice_index_or (texts e.1.vals.items) 0 []) o ≡ Some t
      go None is = absurd (some_none t is)
      go (Some e) is = ap Some (first e.1.vals.items is)

  pub value_used : first_value g x ≡ None → is_some (matched_of g x) ≡ true → value_of x (map use_found (rows_of g)) ≡ Some []
  value_used none used = found_is x g ∙ go (find (λ e. bytes_eq e.0.now x) g.entries.items) none used
    where
      first : (vs : List (Bor Text)) → option_map (λ s. s.now) (slice_get vs 0) ≡ None → slice_index_or (texts vs) 0 [] ≡ []
      first [] is = refl
      first (v ∷ vs) is = absurd (some_none v.now (sym is))

      go : (o : Option Entry) → option_and_then (λ (a : MatchedArg). option_map (λ s. s.now) (slice_get a.vals.items 0)) (option_map (λ e. e.1) o) ≡ None
          → is_some (option_map (λ (e : Entry). e.1) o) ≡ true → option_map (λ (e : Entry). slice_index_or (texts e.1.vals.items) 0 []) o ≡ Some []
      go None none used = absurd (true≢false (sym used))
      go (Some e) none used = ap Some (first e.1.vals.items none)

  pub value_none : is_some (matched_of g x) ≡ false → value_of x (map use_found (rows_of g)) ≡ None
  value_none unused = found_is x g ∙ go (find (λ e. bytes_eq e.0.now x) g.entries.items) unused
    where
      go : (o : Option Entry) → is_some (option_map (λ (e : Entry). e.1) o) ≡ false → option_map (λ (e : Entry). slice_index_or (texts e.1.vals.items) 0 []) o ≡ None
      go None e = refl
      go (Some x) e = absurd (true≢false e)
