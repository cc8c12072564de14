-- A parse doesn't fail if and only if the words give something, and what it finds is what they give.
--
-- The walk over the words leaves what their uses add, and these can all be added if and only if no
-- name is used twice.
use Rattle.std.proofs.Common.{◌≡◌, ◌∙◌, ◌≤◌, Bool, true, false, cond, sym, refl, ap, true≢false, List, [], map, length, Option, Some, None}
use Rattle.std.specs.Prelude.{option_and_then}
use Rattle.std.specs.List.{list_all}
use Rattle.clap.specs.Walk.{Row, nothing_held}
use Rattle.clap.specs.Faults.{fault_of}
use Rattle.clap.specs.Kinds.{Kinds}
use Rattle.clap.specs.Simple.{matches_of}
use Rattle.cmd_words.specs.Line.{Form, Text, Use, is_distinct, names_of, once, read, uses}
use Rattle.cmd_words.specs.Laws.{app_of, is_apart, is_long_or_plain, use_found}
use Rattle.cmd_words.proofs.Basics.{same_some, some_none}
use Rattle.cmd_words.proofs.Left.{added, left}
use Rattle.cmd_words.proofs.Steps.{walk_left}
use Rattle.cmd_words.proofs.Built.{all_left, built_rules, serves}
use Rattle.cmd_words.proofs.Outcome.{start, taken, takes}
use Rattle.cmd_words.proofs.Lines.{is_line}
use Rattle.cmd_words.proofs.Rows.{added_is, row_for, uses_kept}

module _ (f : Form) (apart : is_apart f ≡ true) (few : length f.positions ≤ 3) (words : List Text) where
  -- what the uses of the words add
  left_is : list_all is_long_or_plain words ≡ true
      → left (built_rules f) start words ≡ option_and_then (λ us. added (built_rules f) us []) (uses f f.positions words)
  left_is long = walk_left (built_rules f) f (serves f apart) words long nothing_held 1 f.positions (all_left f apart few)

  -- a parse that doesn't fail finds what the words give
  pub is_read : list_all is_long_or_plain words ≡ true → fault_of (app_of f) words ≡ [] → read f words ≡ Some (map use_found (matches_of (app_of f) words))
  unfolding read
  is_read long none = go (uses f f.positions words) refl (sym (left_is long) ∙ taken f words few none)
    where
      rows : List Row
      rows = matches_of (app_of f) words

      all : (us : List Use) → uses f f.positions words ≡ Some us → (b : Bool) → is_distinct (names_of us) ≡ b
          → added (built_rules f) us [] ≡ Some rows → cond b (Some us) None ≡ Some (map use_found rows)
      all us is b apart_is e =
          let known = (is_line f apart words us is).known in
          by b (sym (added_is f apart us known ∙ ap (λ b. cond b (Some (map (row_for f) us)) None) apart_is) ∙ e)
        where
          by : (b : Bool) → cond b (Some (map (row_for f) us)) None ≡ Some rows → cond b (Some us) None ≡ Some (map use_found rows)
          by true same = ap Some (sym (uses_kept f apart us (is_line f apart words us is).known)) ∙ ap (λ rs. Some (map use_found rs)) (same_some _ _ same)
          by false same = absurd (some_none rows same)

      go : (o : Option (List Use)) → uses f f.positions words ≡ o → option_and_then (λ us. added (built_rules f) us []) o ≡ Some rows
          → option_and_then once o ≡ Some (map use_found rows)
      go None is e = absurd (some_none rows e)
      go (Some us) is e = all us is (is_distinct (names_of us)) refl e

  -- words that give something
  record Gives : Type 0 where
    us : List Use
    used : uses f f.positions words ≡ Some us
    distinct : is_distinct (names_of us) ≡ true

  gives : (us : List Use) → read f words ≡ Some us → Gives
  unfolding read
  gives us e = go (uses f f.positions words) refl e
    where
      alone : (vs : List Use) → uses f f.positions words ≡ Some vs → (b : Bool) → is_distinct (names_of vs) ≡ b → cond b (Some vs) None ≡ Some us → Gives
      alone vs is true d e = record { us = vs; used = is; distinct = d }
      alone vs is false d e = absurd (some_none us e)

      go : (o : Option (List Use)) → uses f f.positions words ≡ o → option_and_then once o ≡ Some us → Gives
      go None is e = absurd (some_none us e)
      go (Some vs) is e = alone vs is (is_distinct (names_of vs)) refl e

  -- are parsed, and have no word that the parser reads in a way of its own
  parsed : Gives → fault_of (app_of f) words ≡ []
  parsed g =
      let line = is_line f apart words g.us g.used in
      takes f words _ few
      (left_is line.long ∙ ap (option_and_then (λ us. added (built_rules f) us [])) g.used
      ∙ added_is f apart g.us line.known ∙ ap (λ b. cond b (Some (map (row_for f) g.us)) None) g.distinct)

  pub not_long : list_all is_long_or_plain words ≡ false → read f words ≡ None
  not_long short = go (read f words) refl
    where
      go : (o : Option (List Use)) → read f words ≡ o → read f words ≡ None
      go None is = is
      go (Some us) is = let g = gives us is in absurd (true≢false (sym (is_line f apart words g.us g.used).long ∙ short))

  pub not_parsed : (fault_of (app_of f) words ≡ [] → ⊥) → read f words ≡ None
  not_parsed fails = go (read f words) refl
    where
      go : (o : Option (List Use)) → read f words ≡ o → read f words ≡ None
      go None is = is
      go (Some us) is = absurd (fails (parsed (gives us is)))
