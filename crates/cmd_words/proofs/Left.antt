-- What a parser's walk leaves at its end, and the same made of uses.
--
-- left      what a walk leaves: the rows, or none if a step fails
-- added     the rows that uses add one by one, or none
-- Serves    the rules are those of a form
use Rattle.std.proofs.Common.{◌≡◌, ◌+◌, ℕ, Bool, true, false, cond, List, [], ◌∷◌, Option, Some, None, min}
use Rattle.std.specs.Prelude.{codes, option_and_then}
use Rattle.clap.specs.Lexer.{usize_max}
use Rattle.clap.specs.Walk.{Held, Row, Rule, Walk, arg_by_id, arg_by_index, arg_by_long, idle, is_multiple, most_values, option, settled, takes_several, takes_values, used, walked}
use Rattle.clap.specs.Simple.{Shape}
use Rattle.clap.specs.Kinds.{Kinds}
use Rattle.clap.specs.Faults.{settle_fault, turn_fault, use_fault}
use Rattle.cmd_words.specs.Line.{Form, Text, Use, is_in}

abbrev pub shape : List Rule → Shape
shape c = record {
  name = codes "vcserve";
  aliases = [];
  rules = c;
  is_plain = true;
  is_leaf = true;
  no_binary_name = true;
  disable_help_flag = true;
  disable_help_subcommand = true;
  disable_version_flag = false;
  propagate_version = false;
  has_version = false;
  has_long_version = false;
  args_override_self = false;
  arg_required_else_help = false;
  subcommand_required = false;
  subcommand_negates_reqs = false;
  is_built = true;
}

abbrev pub clean : Kinds → Bool
clean [] = true
clean (k ∷ ks) = false

unfoldable pub left : List Rule → Walk → List Text → Option (List Row)
left c w [] = cond (clean (settle_fault c false w.held)) (Some (settled c w.held).rows) None
left c w (x ∷ xs) = cond (clean (turn_fault (shape c) [] w x)) (left c (walked c [] w x) xs) None

abbrev pub idle_at : Held → ℕ → Walk
idle_at h p = record { held = h; waiting = idle; position = p; is_trailing = false; stopped = None }

abbrev pub waits_at : Text → Held → ℕ → Walk
waits_at id h p = record { held = h; waiting = option id; position = p; is_trailing = false; stopped = None }

-- the values of a use
abbrev pub values_for : Rule → Use → List Text
values_for a u = cond (takes_values a) (u.value ∷ []) []

abbrev pub add_use : Rule → List Text → List Row → Option (List Row)
add_use a vs rows = cond (clean (use_fault false a vs rows)) (Some (used a vs rows)) None

unfoldable pub added : List Rule → List Use → List Row → Option (List Row)
added c [] rows = Some rows
added c (u ∷ us) rows =
    option_and_then (λ a. option_and_then (added c us) (add_use a (values_for a u) rows)) (arg_by_id c u.name)

-- an option or a position has one value
pub record TakesOne (a : Rule) : Type 0 where
  pub takes : takes_values a ≡ true
  pub alone : takes_several a ≡ false
  pub single : is_multiple a ≡ false
  pub most : most_values a ≡ 1
  pub needs_one : (rows : List Row) → clean (use_fault false a [] rows) ≡ false
  pub trailing : a.trailing_var_arg ≡ false

pub record IsOption (c : List Rule) (name : Text) : Type 0 where
  pub rule : Rule
  pub found : arg_by_long c name ≡ Some rule
  pub named : arg_by_id c name ≡ Some rule
  pub by_id : arg_by_id c rule.id ≡ Some rule
  pub one : TakesOne rule

pub record IsFlag (c : List Rule) (name : Text) : Type 0 where
  pub rule : Rule
  pub found : arg_by_long c name ≡ Some rule
  pub named : arg_by_id c name ≡ Some rule
  pub none : takes_values rule ≡ false

pub record IsPlace (c : List Rule) (p : ℕ) (name : Text) : Type 0 where
  pub rule : Rule
  pub found : arg_by_index c p ≡ Some rule
  pub named : arg_by_id c name ≡ Some rule
  pub by_id : arg_by_id c rule.id ≡ Some rule
  pub one : TakesOne rule
  pub next : min (p + 1) usize_max ≡ p + 1

-- the positions that are left from the p-th rule on
abbrev pub AreLeft : List Rule → ℕ → List Text → Type 0
AreLeft c p [] = arg_by_index c p ≡ None
AreLeft c p (name ∷ names) = IsPlace c p name × AreLeft c (p + 1) names

-- the rules are those of the form
pub record Serves (c : List Rule) (f : Form) : Type 0 where
  pub option : (name : Text) → is_in name f.options ≡ true → IsOption c name
  pub flag : (name : Text) → is_in name f.flags ≡ true → IsFlag c name
  pub apart : (name : Text) → is_in name f.options ≡ true → is_in name f.flags ≡ false
  pub other : (name : Text) → is_in name f.options ≡ false → is_in name f.flags ≡ false → arg_by_long c name ≡ None
