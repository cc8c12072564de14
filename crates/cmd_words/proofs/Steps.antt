-- A parser's walk over the words leaves what the uses of the words add.
--
-- Between two words a walk either waits for an option's value or is idle; an idle walk may still
-- hold a use that fails when it settles. So what an idle walk leaves are the rows that the uses of
-- the words add to those that it has once it is settled, and none if settling fails.
use Rattle.std.proofs.Common.{◌≡◌, ◌∙◌, ◌+◌, ℕ, Bool, true, false, cond, sym, refl, ap, inl, inr, true≢false, List, [], ◌∷◌, Option, Some, None, subst}
use Rattle.std.specs.Prelude.{drop, option_and_then}
use Rattle.std.specs.List.{list_all}
use Rattle.std.specs.Option.{is_some}
use Rattle.std.specs.Str.{bytes_eq}
use Rattle.clap.specs.Lexer.{name_and_value, usize_max}
use Rattle.clap.specs.Walk.{Held, Row, Rule, Walk, arg_by_id, arg_by_index, arg_by_long, option, reacted, settled, takes_values, to_positional, used, value, walked, word_met}
use Rattle.clap.specs.Kinds.{Kinds, or_else}
use Rattle.clap.specs.declared.error.kind.ErrorKind.TheVariants as kind
use Rattle.clap.specs.Faults.{long_fault, option_fault, react_fault, settle_fault, step_fault, turn_fault, use_fault}
use Rattle.cmd_words.specs.Line.{Form, Text, Use, awaits_value, begins_with_hyphen, followed_by, has_equals, is_in, name_in, next_position, places_after, use_of, use_with, uses, value_in}
use Rattle.cmd_words.specs.Laws.{is_long_or_plain}
use Rattle.clap.proofs.WalkLemmas.{both}
use Rattle.cmd_words.proofs.Basics.{and_false, bytes_same, cond_same}
use Rattle.cmd_words.proofs.Looks.{Looks, looks, plain_hyphens, plain_long, plain_short}
use Rattle.cmd_words.proofs.Left.{AreLeft, IsOption, Serves, TakesOne, added, clean, idle_at, left, shape, waits_at}

-- ---- one plain word

plain_turn : (c : List Rule) (h : Held) (p : ℕ) (w : Text) → begins_with_hyphen w ≡ false
    → turn_fault (shape c) [] (idle_at h p) w ≡ step_fault (shape c) p h value
plain_turn c h p w e = rw (plain_hyphens w e, plain_long w e, plain_short w e) refl

plain_walk : (c : List Rule) (h : Held) (p : ℕ) (w : Text) → begins_with_hyphen w ≡ false
    → walked c [] (idle_at h p) w ≡ to_positional c (arg_by_index c p) w (idle_at h p) h
unfolding walked
plain_walk c h p w e = rw (plain_hyphens w e, plain_long w e, plain_short w e) refl

-- ---- one long word, by its argument and the value that is attached to it

module _ (c : List Rule) (h : Held) (p x : ℕ) (xs : Text) where
  abbrev long : Text
  long = 45 ∷ 45 ∷ x ∷ xs

  valued_turn : (a : Rule) → arg_by_long c (name_in long) ≡ Some a → takes_values a ≡ true → has_equals long ≡ true
      → turn_fault (shape c) [] (idle_at h p) long
      ≡ or_else (or_else (settle_fault c false h) (use_fault false a (value_in long ∷ []) (settled c h).rows)) []
  valued_turn a found takes v = rw (found, v, takes) refl

  valued_walk : (a : Rule) → arg_by_long c (name_in long) ≡ Some a → takes_values a ≡ true → has_equals long ≡ true
      → walked c [] (idle_at h p) long ≡ idle_at (reacted c a (value_in long ∷ []) h) p
  unfolding walked
  valued_walk a found takes v = rw (found, v, takes) refl

  awaiting_turn : (a : Rule) → arg_by_long c (name_in long) ≡ Some a → takes_values a ≡ true → has_equals long ≡ false
      → turn_fault (shape c) [] (idle_at h p) long ≡ or_else (settle_fault c false h) []
  awaiting_turn a found takes v = rw (found, v, takes) refl

  awaiting_walk : (a : Rule) → arg_by_long c (name_in long) ≡ Some a → takes_values a ≡ true → has_equals long ≡ false
      → walked c [] (idle_at h p) long ≡ waits_at a.id (record (settled c h) { pending = Some (a.id, []) }) p
  unfolding walked
  awaiting_walk a found takes v = rw (found, v, takes) refl

  flag_turn : (a : Rule) → arg_by_long c (name_in long) ≡ Some a → takes_values a ≡ false → has_equals long ≡ false
      → turn_fault (shape c) [] (idle_at h p) long
      ≡ or_else (or_else (settle_fault c false h) (use_fault false a [] (settled c h).rows)) []
  flag_turn a found takes v = rw (found, v, takes) refl

  flag_walk : (a : Rule) → arg_by_long c (name_in long) ≡ Some a → takes_values a ≡ false → has_equals long ≡ false
      → walked c [] (idle_at h p) long ≡ idle_at (reacted c a [] h) p
  unfolding walked
  flag_walk a found takes v = rw (found, v, takes) refl

  valued_flag : (a : Rule) → arg_by_long c (name_in long) ≡ Some a → takes_values a ≡ false → has_equals long ≡ true
      → clean (turn_fault (shape c) [] (idle_at h p) long) ≡ false
  valued_flag a found takes v = rw (found, v, takes) refl

  unknown_turn : arg_by_long c (name_in long) ≡ None → clean (turn_fault (shape c) [] (idle_at h p) long) ≡ false
  unknown_turn found = rw found refl

-- ---- an option that waits, and the word after it

-- it takes a plain word as its value
taken_turn : (c : List Rule) (h : Held) (p : ℕ) (id w : Text) → begins_with_hyphen w ≡ false
    → turn_fault (shape c) [] (waits_at id h p) w ≡ []
taken_turn c h p id w e = rw (plain_hyphens w e, plain_long w e, plain_short w e) refl

taken_walk : (c : List Rule) (rows : List Row) (skip p : ℕ) (a : Rule) (w : Text) → begins_with_hyphen w ≡ false → TakesOne a
    → arg_by_id c a.id ≡ Some a
    → walked c [] (waits_at a.id (record { rows = rows; pending = Some (a.id, []); skip = skip }) p) w
    ≡ idle_at (record { rows = rows; pending = Some (a.id, w ∷ []); skip = skip }) p
unfolding walked
taken_walk c rows skip p a w e one by_id =
    rw (plain_hyphens w e, plain_long w e, plain_short w e, by_id, one.most, bytes_same a.id) refl

or_unclean : (a b : Kinds) → clean a ≡ false → clean (or_else a b) ≡ false
or_unclean [] b e = absurd (true≢false e)
or_unclean (k ∷ ks) b e = refl

-- a long word that meets an option with no value fails
long_unclean : (c : List Rule) (o : Option Rule) (v : Option Text) (h : Held) → clean (settle_fault c false h) ≡ false
    → clean (long_fault c false o v h) ≡ false
long_unclean c None v h e = refl
long_unclean c (Some a) v h e = go (takes_values a) v
  where
    go : (b : Bool) (v : Option Text) → clean (cond b (option_fault c false a v h) (cond (is_some v) (kind.TooManyValues ∷ []) (react_fault c false a [] h))) ≡ false
    go true None = e
    go true (Some t) = or_unclean _ _ e
    go false None = or_unclean _ _ e
    go false (Some t) = refl

missed_turn : (c : List Rule) (h : Held) (p : ℕ) (id : Text) (x : ℕ) (xs : Text) → clean (settle_fault c false h) ≡ false
    → clean (turn_fault (shape c) [] (waits_at id h p) (45 ∷ 45 ∷ x ∷ xs)) ≡ false
missed_turn c h p id x xs e =
    let w : Text = 45 ∷ 45 ∷ x ∷ xs in
    let o = arg_by_long c (name_and_value (x ∷ xs)).0 in
    let v = (name_and_value (x ∷ xs)).1 in
    let met = word_met c [] false (option id) p w h in
    or_unclean (long_fault c false o v h) (step_fault (shape c) p met.0 met.1) (long_unclean c o v h e)

-- ---- one word, and what is left of the rest

left_fails : (c : List Rule) (w : Walk) (x : Text) (xs : List Text) → clean (turn_fault (shape c) [] w x) ≡ false → left c w (x ∷ xs) ≡ None
unfolding left
left_fails c w x xs e = ap (λ b. cond b (left c (walked c [] w x) xs) None) e

left_goes : (c : List Rule) (w after : Walk) (x : Text) (xs : List Text) (k : Kinds) → turn_fault (shape c) [] w x ≡ k → walked c [] w x ≡ after
    → left c w (x ∷ xs) ≡ cond (clean k) (left c after xs) None
unfolding left
left_goes c w after x xs k turn walk = λ i. cond (clean (turn i)) (left c (walk i) xs) None

-- what an idle walk leaves, with these positions left
abbrev pub LeftOf : List Rule → Form → List Text → List Text → Held → Option (List Row)
LeftOf c f places words h = cond (clean (settle_fault c false h)) (option_and_then (λ us. added c us (settled c h).rows) (uses f places words)) None

after_turn : {X : Type 0} (s u : Kinds) (x : Option X) → cond (clean (or_else (or_else s u) [])) x None ≡ cond (clean s) (cond (clean u) x None) None
after_turn [] [] x = refl
after_turn [] (k ∷ ks) x = refl
after_turn (k ∷ ks) u x = refl

after_settle : {X : Type 0} (s : Kinds) (x : Option X) → cond (clean (or_else s [])) x None ≡ cond (clean s) x None
after_settle [] x = refl
after_settle (k ∷ ks) x = refl

-- one use is added to those of the rest
join : (c : List Rule) (u : Use) (rows after : List Row) (b : Bool) (o : Option (List Use))
    → ((us : List Use) → added c (u ∷ us) rows ≡ option_and_then (added c us) (cond b (Some after) None))
    → cond b (option_and_then (λ us. added c us after) o) None ≡ option_and_then (λ us. added c us rows) (followed_by (Some u) o)
join c u rows after true (Some us) e = sym (e us)
join c u rows after true None e = refl
join c u rows after false (Some us) e = sym (e us)
join c u rows after false None e = refl

no_uses : (c : List Rule) (f : Form) (places words : List Text) (h : Held) → uses f places words ≡ None → LeftOf c f places words h ≡ None
no_uses c f places words h e = ap (λ o. cond (clean (settle_fault c false h)) (option_and_then (λ us. added c us (settled c h).rows) o) None) e ∙ cond_same _ None

alone : (f : Form) (places : List Text) (w : Text) (rest : List Text) → awaits_value f w ≡ false
    → uses f places (w ∷ rest) ≡ followed_by (use_of f places w) (uses f (places_after places w) rest)
unfolding uses
alone f places w [] e = refl
alone f places w (next ∷ rest) e = rw e refl

only : (f : Form) (places : List Text) (w : Text) → uses f places (w ∷ []) ≡ followed_by (use_of f places w) (Some [])
unfolding uses
only f places w = refl

pair : (f : Form) (places : List Text) (w next : Text) (rest : List Text) → awaits_value f w ≡ true
    → uses f places (w ∷ next ∷ rest) ≡ followed_by (use_with w next) (uses f places rest)
unfolding uses
pair f places w next rest e = rw e refl

none_after : (o : Option Use) (us : Option (List Use)) → o ≡ None → followed_by o us ≡ None
none_after o us e = ap (λ u. followed_by u us) e

plain_alone : (f : Form) (w : Text) → begins_with_hyphen w ≡ false → awaits_value f w ≡ false
plain_alone f [] e = refl
plain_alone f (x ∷ xs) e = rw e refl

-- a plain word is the next position
plain_uses : (f : Form) (places : List Text) (w : Text) (rest : List Text) → begins_with_hyphen w ≡ false
    → uses f places (w ∷ rest) ≡ followed_by (next_position places w) (uses f (drop 1 places) rest)
plain_uses f places w rest e =
    alone f places w rest (plain_alone f w e)
    ∙ (let same : use_of f places w ≡ next_position places w = rw e refl in
    let left : places_after places w ≡ drop 1 places = rw e refl in
    λ i. followed_by (same i) (uses f (left i) rest))

-- a walk that holds a use of an argument by its id: it settles as that use
held_left : (c : List Rule) (f : Form) (places words : List Text) (rows : List Row) (skip : ℕ) (a : Rule) (vs : List Text) → arg_by_id c a.id ≡ Some a
    → LeftOf c f places words (record { rows = rows; pending = Some (a.id, vs); skip = skip })
    ≡ cond (clean (use_fault false a vs rows)) (option_and_then (λ us. added c us (used a vs rows)) (uses f places words)) None
held_left c f places words rows skip a vs by_id = rw by_id refl

-- a use of an argument that has a value, and of one that has none
add_valued : (c : List Rule) (a : Rule) (n v : Text) (rows : List Row) (us : List Use) → arg_by_id c n ≡ Some a → takes_values a ≡ true
    → added c (record { name = n; value = v } ∷ us) rows
    ≡ option_and_then (added c us) (cond (clean (use_fault false a (v ∷ []) rows)) (Some (used a (v ∷ []) rows)) None)
unfolding added
add_valued c a n v rows us named takes = rw (named, takes) refl

add_flag : (c : List Rule) (a : Rule) (n v : Text) (rows : List Row) (us : List Use) → arg_by_id c n ≡ Some a → takes_values a ≡ false
    → added c (record { name = n; value = v } ∷ us) rows
    ≡ option_and_then (added c us) (cond (clean (use_fault false a [] rows)) (Some (used a [] rows)) None)
unfolding added
add_flag c a n v rows us named takes = rw (named, takes) refl

module _ (c : List Rule) (f : Form) (s : Serves c f) where
  -- from each idle walk, with the positions that are left
  abbrev Leaves : List Text → Type 0
  Leaves words = (h : Held) (p : ℕ) (places : List Text) → AreLeft c p places → left c (idle_at h p) words ≡ LeftOf c f places words h

  -- a plain word is a position
  plain_step : (w : Text) (rest : List Text) → begins_with_hyphen w ≡ false → Leaves rest → Leaves (w ∷ rest)
  plain_step w rest e ih h p [] at =
      let stray : clean (step_fault (shape c) p h value) ≡ false = rw at refl in
      left_fails c (idle_at h p) w rest (ap clean (plain_turn c h p w e) ∙ stray)
      ∙ sym (no_uses c f [] (w ∷ rest) h (plain_uses f [] w rest e))
  plain_step w rest e ih h p (name ∷ names) at =
      let a = at.0.rule in
      let one = at.0.one in
      let rows = (settled c h).rows in
      let u : Use = record { name = name; value = w } in
      let turn : step_fault (shape c) p h value ≡ settle_fault c false h = rw (at.0.found, one.alone, and_false) refl in
      let walk : to_positional c (arg_by_index c p) w (idle_at h p) h
      ≡ idle_at (record { rows = rows; pending = Some (a.id, w ∷ []); skip = h.skip }) (p + 1) =
      rw (at.0.found, one.single, one.alone, one.trailing, and_false, at.0.next) refl in
      left_goes c (idle_at h p) _ w rest _ (plain_turn c h p w e ∙ turn) (plain_walk c h p w e ∙ walk)
      ∙ ap (λ o. cond (clean (settle_fault c false h)) o None)
      (ih _ (p + 1) names at.1 ∙ held_left c f names rest rows h.skip a (w ∷ []) at.0.by_id
      ∙ join c u rows (used a (w ∷ []) rows) (clean (use_fault false a (w ∷ []) rows)) (uses f names rest)
      (λ us. add_valued c a name w rows us at.0.named one.takes))
      ∙ sym (ap (λ o. cond (clean (settle_fault c false h)) (option_and_then (λ us. added c us rows) o) None) (plain_uses f (name ∷ names) w rest e))

  -- a long word, but for an option that waits for its value
  long_step : (x : ℕ) (xs : Text) (rest : List Text) → Leaves rest
      → (is_in (name_in (45 ∷ 45 ∷ x ∷ xs)) f.options ≡ true → has_equals (45 ∷ 45 ∷ x ∷ xs) ≡ false → Leaves ((45 ∷ 45 ∷ x ∷ xs) ∷ rest))
      → Leaves ((45 ∷ 45 ∷ x ∷ xs) ∷ rest)
  long_step x xs rest ih wait h p places at = go (is_in n f.options) (is_in n f.flags) (has_equals w) refl refl refl
    where
      w : Text
      w = 45 ∷ 45 ∷ x ∷ xs

      n : Text
      n = name_in w

      rows : List Row
      rows = (settled c h).rows

      S : Bool
      S = clean (settle_fault c false h)

      -- the word makes a use, and the walk is idle after it
      goes : (u : Use) (a : Rule) (vs : List Text) → use_of f places w ≡ Some u → awaits_value f w ≡ false
          → turn_fault (shape c) [] (idle_at h p) w ≡ or_else (or_else (settle_fault c false h) (use_fault false a vs rows)) []
          → walked c [] (idle_at h p) w ≡ idle_at (reacted c a vs h) p
          → ((us : List Use) → added c (u ∷ us) rows ≡ option_and_then (added c us) (cond (clean (use_fault false a vs rows)) (Some (used a vs rows)) None))
          → left c (idle_at h p) (w ∷ rest) ≡ LeftOf c f places (w ∷ rest) h
      goes u a vs made free turn walk adds =
          left_goes c (idle_at h p) _ w rest _ turn walk
          ∙ after_turn (settle_fault c false h) (use_fault false a vs rows) (left c (idle_at (reacted c a vs h) p) rest)
          ∙ ap (λ o. cond S (cond (clean (use_fault false a vs rows)) o None) None) (ih (reacted c a vs h) p places at)
          ∙ ap (λ o. cond S o None) (join c u rows (used a vs rows) (clean (use_fault false a vs rows)) (uses f places rest) adds)
          ∙ sym (ap (λ o. cond S (option_and_then (λ us. added c us rows) o) None) (alone f places w rest free ∙ ap (λ o. followed_by o (uses f places rest)) made))

      -- the word makes no use, and the turn fails
      fails : use_of f places w ≡ None → awaits_value f w ≡ false → clean (turn_fault (shape c) [] (idle_at h p) w) ≡ false
          → left c (idle_at h p) (w ∷ rest) ≡ LeftOf c f places (w ∷ rest) h
      fails none free turn =
          left_fails c (idle_at h p) w rest turn
          ∙ sym (no_uses c f places (w ∷ rest) h (alone f places w rest free ∙ none_after (use_of f places w) (uses f places rest) none))

      go : (io if he : Bool) → is_in n f.options ≡ io → is_in n f.flags ≡ if → has_equals w ≡ he
          → left c (idle_at h p) (w ∷ rest) ≡ LeftOf c f places (w ∷ rest) h
      go true if false o g e = wait o e h p places at
      go true if true o g e =
          let found = s.option n o in
          goes (record { name = n; value = value_in w }) found.rule (value_in w ∷ []) (rw (e, o) refl) (rw e refl)
          (valued_turn c h p x xs found.rule found.found found.one.takes e) (valued_walk c h p x xs found.rule found.found found.one.takes e)
          (λ us. add_valued c found.rule n (value_in w) rows us found.named found.one.takes)
      go false true false o g e =
          let found = s.flag n g in
          goes (record { name = n; value = [] }) found.rule [] (rw (e, g) refl) (rw (e, o) refl)
          (flag_turn c h p x xs found.rule found.found found.none e) (flag_walk c h p x xs found.rule found.found found.none e)
          (λ us. add_flag c found.rule n [] rows us found.named found.none)
      go false true true o g e =
          let found = s.flag n g in
          fails (rw (e, o) refl) (rw e refl) (valued_flag c h p x xs found.rule found.found found.none e)
      go false false true o g e = fails (rw (e, o) refl) (rw e refl) (unknown_turn c h p x xs (s.other n o g))
      go false false false o g e = fails (rw (e, g) refl) (rw (e, o) refl) (unknown_turn c h p x xs (s.other n o g))

  -- an option that waits for its value gets no word
  last_step : (x : ℕ) (xs : Text) → is_in (name_in (45 ∷ 45 ∷ x ∷ xs)) f.options ≡ true → has_equals (45 ∷ 45 ∷ x ∷ xs) ≡ false
      → Leaves ((45 ∷ 45 ∷ x ∷ xs) ∷ [])
  unfolding left
  last_step x xs o e h p places at =
      let w : Text = 45 ∷ 45 ∷ x ∷ xs in
      let found = s.option (name_in w) o in
      let a = found.rule in
      let rows = (settled c h).rows in
      let none : use_of f places w ≡ None = rw (e, s.apart (name_in w) o) refl in
      let unfilled : cond (clean (settle_fault c false (record { rows = rows; pending = Some (a.id, []); skip = h.skip })))
      (Some (settled c (record { rows = rows; pending = Some (a.id, []); skip = h.skip })).rows) None ≡ None =
      rw (found.by_id, found.one.needs_one rows) refl in
      left_goes c (idle_at h p) _ w [] _ (awaiting_turn c h p x xs a found.found found.one.takes e) (awaiting_walk c h p x xs a found.found found.one.takes e)
      ∙ ap (λ o. cond (clean (or_else (settle_fault c false h) [])) o None) unfilled ∙ cond_same _ None
      ∙ sym (no_uses c f places (w ∷ []) h (only f places w ∙ none_after (use_of f places w) (Some []) none))

  -- an option that waits for its value gets a word
  next_step : (x : ℕ) (xs : Text) (next : Text) (rest : List Text) → Looks next → Leaves rest
      → is_in (name_in (45 ∷ 45 ∷ x ∷ xs)) f.options ≡ true → has_equals (45 ∷ 45 ∷ x ∷ xs) ≡ false
      → Leaves ((45 ∷ 45 ∷ x ∷ xs) ∷ next ∷ rest)
  next_step x xs next rest look ih o e h p places at = go look
    where
      w : Text
      w = 45 ∷ 45 ∷ x ∷ xs

      n : Text
      n = name_in w

      found : IsOption c n
      found = s.option n o

      a : Rule
      a = found.rule

      rows : List Row
      rows = (settled c h).rows

      waiting : Held
      waiting = record { rows = rows; pending = Some (a.id, []); skip = h.skip }

      u : Use
      u = record { name = n; value = next }

      first : left c (idle_at h p) (w ∷ next ∷ rest) ≡ cond (clean (settle_fault c false h)) (left c (waits_at a.id waiting p) (next ∷ rest)) None
      first = left_goes c (idle_at h p) _ w (next ∷ rest) _ (awaiting_turn c h p x xs a found.found found.one.takes e) (awaiting_walk c h p x xs a found.found found.one.takes e)
          ∙ after_settle (settle_fault c false h) (left c (waits_at a.id waiting p) (next ∷ rest))

      unfilled : clean (settle_fault c false waiting) ≡ false
      unfilled = rw found.by_id (found.one.needs_one rows)

      go : Looks next → left c (idle_at h p) (w ∷ next ∷ rest) ≡ LeftOf c f places (w ∷ next ∷ rest) h
      go (inl plain) =
          let with_next : use_with w next ≡ Some u = rw plain refl in
          let made : uses f places (w ∷ next ∷ rest) ≡ followed_by (Some u) (uses f places rest) =
          pair f places w next rest (rw (e, o) refl) ∙ ap (λ v. followed_by v (uses f places rest)) with_next in
          first
          ∙ ap (λ o. cond (clean (settle_fault c false h)) o None)
          (left_goes c (waits_at a.id waiting p) _ next rest _ (taken_turn c waiting p a.id next plain) (taken_walk c rows h.skip p a next plain found.one found.by_id)
          ∙ ih _ p places at ∙ held_left c f places rest rows h.skip a (next ∷ []) found.by_id
          ∙ join c u rows (used a (next ∷ []) rows) (clean (use_fault false a (next ∷ []) rows)) (uses f places rest)
          (λ us. add_valued c a n next rows us found.named found.one.takes))
          ∙ sym (ap (λ o. cond (clean (settle_fault c false h)) (option_and_then (λ us. added c us rows) o) None) made)
      go (inr l) =
          let hyphen : begins_with_hyphen next ≡ true = ap begins_with_hyphen l.2 in
          first
          ∙ ap (λ o. cond (clean (settle_fault c false h)) o None)
          (left_fails c (waits_at a.id waiting p) next rest
          (ap (λ t. clean (turn_fault (shape c) [] (waits_at a.id waiting p) t)) l.2 ∙ missed_turn c waiting p a.id l.0 l.1 unfilled))
          ∙ cond_same _ None
          ∙ sym (no_uses c f places (w ∷ next ∷ rest) h (pair f places w next rest (rw (e, o) refl) ∙ none_after (use_with w next) (uses f places rest) (rw hyphen refl)))

  at_end : Leaves []
  unfolding left uses added
  at_end h p places at = refl

  one_word : (w : Text) → Looks w → Leaves (w ∷ [])
  one_word w (inl plain) = plain_step w [] plain at_end
  one_word w (inr l) = subst (λ t. Leaves (t ∷ [])) (sym l.2) (long_step l.0 l.1 [] at_end (last_step l.0 l.1))

  more_words : (w next : Text) (rest : List Text) → Looks w → Looks next → Leaves (next ∷ rest) → Leaves rest → Leaves (w ∷ next ∷ rest)
  more_words w next rest (inl plain) look ih after = plain_step w (next ∷ rest) plain ih
  more_words w next rest (inr l) look ih after =
      subst (λ t. Leaves (t ∷ next ∷ rest)) (sym l.2) (long_step l.0 l.1 (next ∷ rest) ih (next_step l.0 l.1 next rest look after))

  -- what an idle walk leaves
  pub walk_left : (words : List Text) → list_all is_long_or_plain words ≡ true → Leaves words
  walk_left [] e = at_end
  walk_left (w ∷ []) e = one_word w (looks w (both _ _ e).0)
  walk_left (w ∷ next ∷ rest) e =
      more_words w next rest (looks w (both _ _ e).0) (looks next (both _ _ (both _ _ e).1).0) (walk_left (next ∷ rest) (both _ _ e).1)
      (walk_left rest (both _ _ (both _ _ e).1).1)
