use Rattle.std.proofs.Common.{◌≡◌, ◌∙◌, ap, true, map}
use Rattle.std.proofs.lemmas.Result.{IfOk-weaker}
use Rattle.clap.specs.Simple.{app_of, app_of_fields, on_top}
use Rattle.cmd_words.specs.Laws.{bare_app, flag_rule, form_of, option_rule, place_rule, with_rules}
use Rattle.cmd_words.proofs.Rules.{rules_in_turn}
use Rattle.cmd_words.proofs.parse.command_of.Goals as goal

pub returns : goal.returns
returns c =
    let f = form_of c.args.form in
    let bare : app_of c.disable_help_flag-command.result ≡ bare_app =
    ap app_of_fields c.disable_help_flag-command.ensures
    ∙ ap (λ r. app_of_fields (record r { disable_help_flag = true })) c.no_binary_name.ensures
    ∙ ap (on_top (λ s. record s { no_binary_name = true; disable_help_flag = true })) c.new.ensures.app in
    let flags : app_of c.in_ok-command-2.command ≡ with_rules (with_rules bare_app (map option_rule f.options)) (map flag_rule f.flags) =
    c.in_ok-command-2.ensures ∙ ap (λ a. with_rules a (map flag_rule f.flags))
    (c.in_ok-command.ensures ∙ ap (λ a. with_rules a (map option_rule f.options)) bare) in
    IfOk-weaker c.with_places.result _ _ (λ r h.
    h ∙ ap (λ a. with_rules a (map place_rule f.positions)) flags
    ∙ rules_in_turn bare_app (map option_rule f.options) (map flag_rule f.flags) (map place_rule f.positions)) c.with_places.ensures
