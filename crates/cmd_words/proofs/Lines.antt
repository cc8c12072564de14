-- What the words of a line are: each has two hyphens and more or none, and each makes a use with a
-- name of the form.
use Rattle.std.proofs.Common.{◌≡◌, ◌∙◌, ◌&&◌, ◌||◌, ◌==◌, Bool, true, false, cond, not, sym, refl, ap, arith, true≢false, List, [], ◌∷◌, length, Option, Some, None, lt-ltb}
use Rattle.std.specs.Prelude.{drop, nat_lt}
use Rattle.std.specs.List.{list_all}
use Rattle.std.specs.Str.{bytes_eq}
use Rattle.cmd_words.specs.Line.{Form, Text, Use, awaits_value, begins_with_hyphen, begins_with_hyphens, followed_by, has_equals, is_in, name_in, next_position, places_after, use_of, use_with, uses, value_in}
use Rattle.cmd_words.specs.Laws.{is_apart, is_long_or_plain}
use Rattle.cmd_words.proofs.Basics.{and_false, bytes_same, or_first, or_second, same_some, some_none}
use Rattle.cmd_words.proofs.Built.{no_empty_flag, no_empty_option}
use Rattle.cmd_words.proofs.Rows.{is_known}

-- what a word uses by itself
data MadeBy (f : Form) (places : List Text) (w : Text) (u : Use) : Type 0 where
  place : (name : Text) → is_in name places ≡ true → begins_with_hyphen w ≡ false → u ≡ record { name = name; value = w } → MadeBy f places w u
  valued : begins_with_hyphens w ≡ true → is_in (name_in w) f.options ≡ true → u ≡ record { name = name_in w; value = value_in w } → MadeBy f places w u
  flag : begins_with_hyphens w ≡ true → is_in (name_in w) f.flags ≡ true → u ≡ record { name = name_in w; value = [] } → MadeBy f places w u

made_place : (f : Form) (places : List Text) (w : Text) (u : Use) → begins_with_hyphen w ≡ false → next_position places w ≡ Some u → MadeBy f places w u
made_place f [] w u plain e = absurd (some_none u e)
made_place f (name ∷ names) w u plain e = place name (or_first _ _ (bytes_same name)) plain (sym (same_some _ _ e))

made_by : (f : Form) (places : List Text) (w : Text) (u : Use) → use_of f places w ≡ Some u → MadeBy f places w u
made_by f places w u e = go (begins_with_hyphen w) (begins_with_hyphens w) (has_equals w) (is_in (name_in w) f.options) (is_in (name_in w) f.flags) refl refl refl refl refl e
  where
    go : (a b he o g : Bool) → begins_with_hyphen w ≡ a → begins_with_hyphens w ≡ b → has_equals w ≡ he → is_in (name_in w) f.options ≡ o → is_in (name_in w) f.flags ≡ g
        → cond (not a) (next_position places w) (cond (b && he && o) (Some (record { name = name_in w; value = value_in w }))
        (cond (b && not he && g) (Some (record { name = name_in w; value = [] })) None)) ≡ Some u → MadeBy f places w u
    go false b he o g ea eb eh eo eg e = made_place f places w u ea e
    go true true true true g ea eb eh eo eg e = valued eb eo (sym (same_some _ _ e))
    go true true true false g ea eb eh eo eg e = absurd (some_none u e)
    go true true false o true ea eb eh eo eg e = flag eb eg (sym (same_some _ _ e))
    go true true false o false ea eb eh eo eg e = absurd (some_none u e)
    go true false he o g ea eb eh eo eg e = absurd (some_none u e)

known_option : (f : Form) (name value : Text) → is_in name f.options ≡ true → is_known f (record { name = name; value = value }) ≡ true
known_option f name value o = or_first _ _ o

known_place : (f : Form) (name value : Text) → is_in name f.positions ≡ true → is_known f (record { name = name; value = value }) ≡ true
known_place f name value p = or_second (is_in name f.options) _ (or_first _ _ p)

known_flag : (f : Form) (name : Text) → is_in name f.flags ≡ true → is_known f (record { name = name; value = [] }) ≡ true
known_flag f name g = or_second (is_in name f.options) _ (or_second (is_in name f.positions) _ (ap (λ b. b && true) g))

-- the positions that are left are the form's
abbrev AreIts : Form → List Text → Type 0
AreIts f places = (x : Text) → is_in x places ≡ true → is_in x f.positions ≡ true

use_known : (f : Form) (places : List Text) (w : Text) (u : Use) → AreIts f places → MadeBy f places w u → is_known f u ≡ true
use_known f places w u its (place name at e is) = ap (is_known f) is ∙ known_place f name w (its name at)
use_known f places w u its (valued e o is) = ap (is_known f) is ∙ known_option f (name_in w) (value_in w) o
use_known f places w u its (flag e g is) = ap (is_known f) is ∙ known_flag f (name_in w) g

after_its : (f : Form) (places : List Text) (w : Text) → AreIts f places → AreIts f (places_after places w)
after_its f places w its = go (begins_with_hyphen w) places its
  where
    go : (b : Bool) (places : List Text) → AreIts f places → AreIts f (cond b places (drop 1 places))
    go true places its = its
    go false [] its = its
    go false (y ∷ ys) its = λ x e. its x (or_second (bytes_eq y x) _ e)

named_long : (w : Text) (names : List Text) → begins_with_hyphens w ≡ true → is_in (name_in w) names ≡ true → is_in [] names ≡ false → is_long_or_plain w ≡ true
named_long [] names e i none = absurd (true≢false (sym e))
named_long (x ∷ []) names e i none = absurd (true≢false (sym e ∙ and_false (x == 45)))
named_long (x ∷ y ∷ []) names e i none = absurd (true≢false (sym i ∙ none))
named_long (x ∷ y ∷ z ∷ zs) names e i none =
    let long : nat_lt 2 (length (x ∷ y ∷ z ∷ zs)) ≡ true = lt-ltb 2 (length (x ∷ y ∷ z ∷ zs)) (omega arith) in
    or_second (not (x == 45)) _ ((λ j. e j && long j))

plain_long : (w : Text) → begins_with_hyphen w ≡ false → is_long_or_plain w ≡ true
plain_long w e = ap (λ b. not b || (begins_with_hyphens w && nat_lt 2 (length w))) e

use_long : (f : Form) (places : List Text) (w : Text) (u : Use) → is_in [] f.options ≡ false → is_in [] f.flags ≡ false → MadeBy f places w u → is_long_or_plain w ≡ true
use_long f places w u o g (place name at e is) = plain_long w e
use_long f places w u o g (valued e i is) = named_long w f.options e i o
use_long f places w u o g (flag e i is) = named_long w f.flags e i g

-- an option with its value in the next word
record MadeWith (f : Form) (w next : Text) (u : Use) : Type 0 where
  hyphens : begins_with_hyphens w ≡ true
  named : is_in (name_in w) f.options ≡ true
  plain : begins_with_hyphen next ≡ false
  is : u ≡ record { name = name_in w; value = next }

made_with : (f : Form) (w next : Text) (u : Use) → awaits_value f w ≡ true → use_with w next ≡ Some u → MadeWith f w next u
made_with f w next u a e = go (begins_with_hyphens w) (has_equals w) (is_in (name_in w) f.options) (begins_with_hyphen next) refl refl refl refl a e
  where
    go : (b he o p : Bool) → begins_with_hyphens w ≡ b → has_equals w ≡ he → is_in (name_in w) f.options ≡ o → begins_with_hyphen next ≡ p
        → (b && not he && o) ≡ true → cond p None (Some (record { name = name_in w; value = next })) ≡ Some u → MadeWith f w next u
    go true false true false eb eh eo ep a e = record { hyphens = eb; named = eo; plain = ep; is = sym (same_some _ _ e) }
    go true false true true eb eh eo ep a e = absurd (some_none u e)
    go true false false p eb eh eo ep a e = absurd (true≢false (sym a))
    go true true o p eb eh eo ep a e = absurd (true≢false (sym a))
    go false he o p eb eh eo ep a e = absurd (true≢false (sym a))

record Followed (a : Option Use) (b : Option (List Use)) (us : List Use) : Type 0 where
  first : Use
  rest : List Use
  made : a ≡ Some first
  others : b ≡ Some rest
  is : us ≡ first ∷ rest

followed : (a : Option Use) (b : Option (List Use)) (us : List Use) → followed_by a b ≡ Some us → Followed a b us
followed None b us e = absurd (some_none us e)
followed (Some u) None us e = absurd (some_none us e)
followed (Some u) (Some vs) us e = record { first = u; rest = vs; made = refl; others = refl; is = sym (same_some _ _ e) }

-- what the words of a line are, and what they use
pub record IsLine (f : Form) (words : List Text) (us : List Use) : Type 0 where
  pub known : list_all (is_known f) us ≡ true
  pub long : list_all is_long_or_plain words ≡ true

module _ (f : Form) (apart : is_apart f ≡ true) where
  by_itself : (places : List Text) (w : Text) (rest : List Text) (us : List Use) → AreIts f places
      → ((vs : List Use) → uses f (places_after places w) rest ≡ Some vs → IsLine f rest vs)
      → followed_by (use_of f places w) (uses f (places_after places w) rest) ≡ Some us → IsLine f (w ∷ rest) us
  by_itself places w rest us its ih e =
      let parts = followed (use_of f places w) (uses f (places_after places w) rest) us e in
      let made = made_by f places w parts.first parts.made in
      let line = ih parts.rest parts.others in
      record {
        known = ap (list_all (is_known f)) parts.is ∙ (λ i. use_known f places w parts.first its made i && line.known i);
        long = λ i. use_long f places w parts.first (no_empty_option f apart) (no_empty_flag f apart) made i && line.long i;
      }

  with_next : (places : List Text) (w next : Text) (rest : List Text) (us : List Use)
      → ((vs : List Use) → uses f places rest ≡ Some vs → IsLine f rest vs) → awaits_value f w ≡ true
      → followed_by (use_with w next) (uses f places rest) ≡ Some us → IsLine f (w ∷ next ∷ rest) us
  with_next places w next rest us ih a e =
      let parts = followed (use_with w next) (uses f places rest) us e in
      let made = made_with f w next parts.first a parts.made in
      let line = ih parts.rest parts.others in
      record {
        known = ap (list_all (is_known f)) parts.is
            ∙ (λ i. (ap (is_known f) made.is ∙ known_option f (name_in w) next made.named) i && line.known i);
        long = λ i. named_long w f.options made.hyphens made.named (no_empty_option f apart) i && (plain_long next made.plain i && line.long i);
      }

  each_line : (words places : List Text) (us : List Use) → AreIts f places → uses f places words ≡ Some us → IsLine f words us
  unfolding uses
  each_line [] places us its e = record { known = sym (ap (list_all (is_known f)) (same_some _ _ e)); long = refl }
  each_line (w ∷ []) places us its e = by_itself places w [] us its (λ vs. each_line [] (places_after places w) vs (after_its f places w its)) e
  each_line (w ∷ next ∷ rest) places us its e =
      go (awaits_value f w) refl e (λ vs. each_line (next ∷ rest) (places_after places w) vs (after_its f places w its)) (λ vs. each_line rest places vs its)
    where
      go : (b : Bool) → awaits_value f w ≡ b
          → cond b (followed_by (use_with w next) (uses f places rest)) (followed_by (use_of f places w) (uses f (places_after places w) (next ∷ rest))) ≡ Some us
          → ((vs : List Use) → uses f (places_after places w) (next ∷ rest) ≡ Some vs → IsLine f (next ∷ rest) vs) → ((vs : List Use) → uses f places rest ≡ Some vs → IsLine f rest vs)
          → IsLine f (w ∷ next ∷ rest) us
      go true a e ih after = with_next places w next rest us after a e
      go false a e ih after = by_itself places w (next ∷ rest) us its ih e

  pub is_line : (words : List Text) (us : List Use) → uses f f.positions words ≡ Some us → IsLine f words us
  is_line words us e = each_line words f.positions us (λ x at. at) e
