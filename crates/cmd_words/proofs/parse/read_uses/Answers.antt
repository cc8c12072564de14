use Rattle.std.proofs.Common.{◌≡◌, ◌∙◌, ◌≤◌, true, false, sym, ap, map, string_bytes, ℕ, length, List, [], ⊎_elim, subst, Some}
use Rattle.std.proofs.lemmas.List.{length-map}
use Rattle.std.specs.List.{list_all}
use Rattle.clap.specs.Faults.{fault_of, is_simple_and_free}
use Rattle.clap.specs.Kinds.{HasKind}
use Rattle.clap.specs.Simple.{App, app_of, is_simple, matches_of}
use Rattle.clap.specs.Values.{kind_of}
use Rattle.clap.specs.declared.error.Error.{Error}
use Rattle.clap.specs.declared.error.kind.ErrorKind.TheVariants.{OutOfMemory}
use Rattle.clap.proofs.WalkLemmas.{both}
use Rattle.cmd_words.specs.Line.{Form, Text}
use Rattle.cmd_words.specs.Laws.{app_of as app_by, form_of, is_long_or_plain, use_found}
use Rattle.cmd_words.proofs.Basics.{same_err}
use Rattle.cmd_words.proofs.Outcome.{simple_and_free}
use Rattle.cmd_words.proofs.Parses.{is_read, not_long, not_parsed}
use Rattle.cmd_words.proofs.parse.read_uses.Goals as goal

few_texts : (k n : ℕ) → k ≡ n → n ≤ 3 → k ≤ 3
few_texts k n e few = subst (λ k. k ≤ 3) (sym e) few

pub returns-then-not-has_long_words-clause-usage : goal.returns-then-not-has_long_words-clause-usage
returns-then-not-has_long_words-clause-usage c = λ e.
    not_long (form_of c.args.form) c.requires.apart (few_texts _ _ (length-map c.args.form.positions.now (λ s. s.now)) c.requires.few)
    (map string_bytes c.args.words.now) (sym c.has_long_words.ensures ∙ c.if-not-has_long_words.true)

pub returns-in-Ok-try_get_matches_from-clause-uses : goal.returns-in-Ok-try_get_matches_from-clause-uses
returns-in-Ok-try_get_matches_from-clause-uses c =
    let f = form_of c.args.form in
    let words = map string_bytes c.args.words.now in
    let few : length f.positions ≤ 3 = few_texts _ _ (length-map c.args.form.positions.now (λ s. s.now)) c.requires.few in
    let long : list_all is_long_or_plain words ≡ true = sym c.has_long_words.ensures ∙ c.if-not-has_long_words.false in
    let free = ap is_simple_and_free c.in-Ok.ensures ∙ simple_and_free f few in
    let none : fault_of (app_by f) words ≡ [] = sym (ap (λ a. fault_of a words) c.in-Ok.ensures) ∙ c.in-Ok-try_get_matches_from.ensures.kinds free in
    let rows = (c.in-Ok-try_get_matches_from.ensures.matches (both (is_simple (app_of c.in-Ok.command)) _ free).0).0 in
    is_read f c.requires.apart few words long none
    ∙ ap (λ rs. Some (map use_found rs)) (sym (rows ∙ ap (λ a. matches_of a words) c.in-Ok.ensures))

-- a parse that fails, and not because it is out of memory, has a fault
has_fault : (f : Form) → length f.positions ≤ 3 → (words : List Text) (a : App) → a ≡ app_by f → (e : Error)
    → (is_simple_and_free a ≡ true → HasKind (fault_of a words) e) → (kind_of e ≡ OutOfMemory → ⊥) → fault_of (app_by f) words ≡ [] → ⊥
has_fault f few words a is e kinds other none =
    ⊎_elim (λ memory. other memory) (λ never. never)
    (subst (λ ks. HasKind ks e) (ap (λ a. fault_of a words) is ∙ none) (kinds (ap is_simple_and_free is ∙ simple_and_free f few)))

pub returns-in-Err-clause-usage : goal.returns-in-Err-clause-usage
returns-in-Err-clause-usage c = λ e.
    let f = form_of c.args.form in
    let few : length f.positions ≤ 3 = few_texts _ _ (length-map c.args.form.positions.now (λ s. s.now)) c.requires.few in
    not_parsed f c.requires.apart few (map string_bytes c.args.words.now)
    (has_fault f few (map string_bytes c.args.words.now) (app_of c.in-Ok.command) c.in-Ok.ensures c.in-Err.error c.in-Err.ensures.kinds
    (c.cause_of.ensures (same_err _ _ e)))
