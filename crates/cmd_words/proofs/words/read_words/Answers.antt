use Rattle.std.proofs.Common.{◌≡◌, ◌∙◌, sym, ap, Some, List, [], ◌∷◌, map, length, string_bytes, refl, Err, arith}
use Rattle.std.specs.Prelude.{Option, None, option_and_then, option_map}
use Rattle.std.proofs.lemmas.Result.{IfOk-weaker, err_from_is_err_and}
use Rattle.cmd_words.specs.Line.{Form, Line, Row, Text, Use, line, read, row_named}
use Rattle.cmd_words.specs.Laws.{form_of, made_by, row_by, uses_found}
use Rattle.cmd_words.specs.Meaning.{meaning}
use Rattle.cmd_words.specs.declared.form.Name.{Name}
use Rattle.cmd_words.specs.declared.form.Name.TheVariants as name
use Rattle.cmd_words.proofs.Basics.{same_err}
use Rattle.cmd_words.proofs.words.read_words.Goals as goal

none_left : {X : Type 0} (xs : List X) → length xs ≡ 0 → xs ≡ []
none_left [] e = refl
none_left (x ∷ xs) e = absurd (omega arith)

row_made : (n : Name) → (row_by n).made ≡ made_by n
row_made name.Format = refl
row_made name.Hide = refl
row_made name.Info = refl
row_made name.Cat = refl
row_made name.Passwd = refl
row_made name.Restore = refl
row_made name.Expand = refl
row_made name.Serve = refl
row_made name.Drill = refl

-- a line whose first word names a command
line_by : (n : Name) (o : Option Name) (f : Form) (first : Text) (rest : List Text) → o ≡ Some n → option_map row_by o ≡ row_named first → f ≡ (row_by n).form
    → line (first ∷ rest) ≡ option_and_then (made_by n) (read f rest)
unfolding line
line_by n o f first rest is named form =
    ap (option_and_then (λ (r : Row). option_and_then r.made (read r.form rest))) (sym named ∙ ap (option_map row_by) is)
    ∙ (λ i. option_and_then (row_made n i) (read (sym form i) rest))

pub returns-in_default-clause-usage : goal.returns-in_default-clause-usage
unfolding line
returns-in_default-clause-usage c = λ e. ap (λ ws. line (map string_bytes ws)) (none_left c.args.words.now c.in_default.ensures.cases)

pub returns-in_default-command_named-clause-usage : goal.returns-in_default-command_named-clause-usage
unfolding line
returns-in_default-command_named-clause-usage c = λ e.
    let rest = map string_bytes c.in-Some.rest.now in
    ap (λ ws. line (map string_bytes ws)) c.in-Some.ensures.cases.0
    ∙ ap (option_and_then (λ (r : Row). option_and_then r.made (read r.form rest)))
    (ap row_named (sym c.as_str.ensures.value) ∙ sym c.command_named.ensures ∙ ap (option_map row_by) c.in_default-command_named.is)

pub returns-in_err-matches-clause-usage : goal.returns-in_err-matches-clause-usage
returns-in_err-matches-clause-usage c =
    let p = err_from_is_err_and c.from_residual.result c.from_residual.ensures.1 in
    let n = c.in-Some-command_named.name in
    let rest = map string_bytes c.in-Some.rest.now in
    rw (p.1, p.2) (λ e.
    ap (λ ws. line (map string_bytes ws)) c.in-Some.ensures.cases.0
    ∙ line_by n c.command_named.result _ (string_bytes c.in-Some.first.now) rest c.in-Some-command_named.is
    (c.command_named.ensures ∙ ap row_named c.as_str.ensures.value) c.form_of.ensures.form
    ∙ ap (option_and_then (made_by n)) (c.in_err-matches.ensures.usage (ap Err (same_err _ _ e))))

pub returns-clause-command : goal.returns-clause-command
returns-clause-command c =
    let n = c.in-Some-command_named.name in
    let rest = map string_bytes c.in-Some.rest.now in
    let is = ap (λ ws. line (map string_bytes ws)) c.in-Some.ensures.cases.0
    ∙ line_by n c.command_named.result _ (string_bytes c.in-Some.first.now) rest c.in-Some-command_named.is
    (c.command_named.ensures ∙ ap row_named c.as_str.ensures.value) c.form_of.ensures.form
    ∙ ap (option_and_then (made_by n)) c.in_ok-matches.ensures.uses in
    IfOk-weaker c.make.result _ _ (λ x h. is ∙ h) c.make.ensures.command

pub returns-clause-usage : goal.returns-clause-usage
returns-clause-usage c = λ e.
    let n = c.in-Some-command_named.name in
    let rest = map string_bytes c.in-Some.rest.now in
    ap (λ ws. line (map string_bytes ws)) c.in-Some.ensures.cases.0
    ∙ line_by n c.command_named.result _ (string_bytes c.in-Some.first.now) rest c.in-Some-command_named.is
    (c.command_named.ensures ∙ ap row_named c.as_str.ensures.value) c.form_of.ensures.form
    ∙ ap (option_and_then (made_by n)) c.in_ok-matches.ensures.uses
    ∙ c.make.ensures.usage e
