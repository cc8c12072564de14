-- The parser's command for a form, and what its matches say. Only private contracts cite this file.
--
-- row_by        the row of the table for a command
-- made_by       what it makes of what is given
-- form_of       a form whose names are in the code
-- rules_of      its names as rules of a parser: an option has one value, a flag none
-- app_of        the command of these rules, with no program's name before its words and no `--help`
-- is_apart      no name is empty, and none stands for two things
-- uses_found    what the matches say is given
use Rattle.std.specs.Prelude.{◌+◌, ◌++◌, ◌&&◌, ◌||◌, ℕ, nat_lt, Bool, true, false, not, List, [], ◌∷◌, Option, Some, None, codes, length, map}
use Rattle.std.specs.List.{list_all, slice_index_or}
use Rattle.clap.specs.Walk.{Row as Match, Rule, rows_of, texts}
use Rattle.clap.specs.Matches.{found_of}
use Rattle.clap.specs.Simple.{App, new_app, new_rule, on_top}
use Rattle.clap.specs.declared.builder.action.ArgAction.TheVariants.{Set}
use Rattle.clap.specs.declared.parser.matches.ArgMatches.{ArgMatches}
use Rattle.cmd_words.specs.Line.{Form, Line, Row, Text, Use, begins_with_hyphen, begins_with_hyphens, cat_of, commands, drill_of, expand_of, format, hide, info_of, is_distinct, is_in, made_of, passwd_of, restore_of, serve_of}
use Rattle.cmd_words.specs.declared.form.Name.{Name}
use Rattle.cmd_words.specs.declared.form.Name.TheVariants as name
use Rattle.cmd_words.specs.declared.form.Form.{Form as CodeForm}

abbrev pub place_in_table : Name → ℕ
place_in_table name.Format = 0
place_in_table name.Hide = 1
place_in_table name.Info = 2
place_in_table name.Cat = 3
place_in_table name.Passwd = 4
place_in_table name.Restore = 5
place_in_table name.Expand = 6
place_in_table name.Serve = 7
place_in_table name.Drill = 8

abbrev pub no_row : Row
no_row = record {
  name = [];
  form = record { positions = []; options = []; flags = [] };
  made = λ us. None;
}

abbrev pub row_by : Name → Row
row_by n = slice_index_or commands (place_in_table n) no_row

-- the same command of what is given, by its name
abbrev pub made_by : Name → List Use → Option Line
made_by name.Format us = made_of format us
made_by name.Hide us = made_of hide us
made_by name.Info us = info_of us
made_by name.Cat us = cat_of us
made_by name.Passwd us = passwd_of us
made_by name.Restore us = restore_of us
made_by name.Expand us = expand_of us
made_by name.Serve us = serve_of us
made_by name.Drill us = drill_of us

abbrev pub form_of : CodeForm → Form
form_of f = record {
  positions = texts f.positions.now;
  options = texts f.options.now;
  flags = texts f.flags.now;
}

abbrev pub is_apart : Form → Bool
is_apart f =
    list_all (λ name. not (is_in name f.options)) f.flags
    && (list_all (λ place. not (is_in place f.options) && not (is_in place f.flags)) f.positions
    && (is_distinct f.positions && (not (is_in [] f.options) && not (is_in [] f.flags))))

-- a word that begins with a hyphen begins with two, and has more after them
abbrev pub is_long_or_plain : Text → Bool
is_long_or_plain word =
    not (begins_with_hyphen word) || (begins_with_hyphens word && nat_lt 2 (length word))

-- ---- rules

abbrev pub option_rule : Text → Rule
option_rule name = record (new_rule name) { long = Some name; action = Some Set }

abbrev pub flag_rule : Text → Rule
flag_rule name = record (new_rule name) {
  long = Some name;
  action = Some Set;
  range = Some (record { start_inclusive = 0; end_inclusive = 0 });
}

abbrev pub place_rule : Text → Rule
place_rule name = record (new_rule name) { action = Some Set }

abbrev pub rules_of : Form → List Rule
rules_of f = map option_rule f.options ++ (map flag_rule f.flags ++ map place_rule f.positions)

-- a command with more rules
abbrev pub with_rules : App → List Rule → App
with_rules a rules = on_top (λ s. record s { rules = s.rules ++ rules }) a

abbrev pub bare_app : App
bare_app = on_top (λ s. record s { no_binary_name = true; disable_help_flag = true })
    (new_app (codes "vcserve"))

abbrev pub app_of : Form → App
app_of f = with_rules bare_app (rules_of f)

-- ---- matches

abbrev pub use_found : Match → Use
use_found m = record { name = m.id; value = slice_index_or m.values 0 [] }

abbrev pub uses_found : ArgMatches → List Use
uses_found m = map use_found (rows_of (found_of m))
