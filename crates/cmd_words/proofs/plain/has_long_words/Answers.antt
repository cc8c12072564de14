use Rattle.std.proofs.Common.{◌∙◌, string_bytes, rules, tests, sym}
use Rattle.std.proofs.lemmas.Iterator.{YieldsList-from_slice}
use Rattle.std.proofs.lemmas.Iterator.Search.{all_from_yields_List}
use Rattle.std.proofs.lemmas.List.Folds.{list_all-map}
use Rattle.cmd_words.specs.Laws.{is_long_or_plain}
use Rattle.cmd_words.proofs.plain.has_long_words.Goals as goal

pub returns : goal.returns
returns c =
    all_from_yields_List (λ w. is_long_or_plain (string_bytes w)) _ _ _ c.all.ensures.ran (YieldsList-from_slice c.args.words.now cc) (λ x b q k. search (rules, tests))
    ∙ sym (list_all-map is_long_or_plain string_bytes c.args.words.now)
