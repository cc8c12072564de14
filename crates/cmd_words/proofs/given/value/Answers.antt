use Rattle.std.proofs.Common.{◌∙◌, sym}
use Rattle.clap.specs.Matches.{found_of}
use Rattle.cmd_words.proofs.Getters.{value_none, value_some, value_used}
use Rattle.cmd_words.proofs.given.value.Goals as goal

pub returns-in-Some : goal.returns-in-Some
returns-in-Some c = sym (value_some c.args.name.now (found_of c.args.matches.now) c.in-Some.text.now (sym c.in-Some.ensures))

pub returns-in-None : goal.returns-in-None
returns-in-None c = sym (value_used c.args.name.now (found_of c.args.matches.now) (sym c.in-None.ensures) (sym c.contains_id.ensures ∙ c.if-contains_id.true))

pub returns-in-None-2 : goal.returns-in-None-2
returns-in-None-2 c = sym (value_none c.args.name.now (found_of c.args.matches.now) (sym c.contains_id.ensures ∙ c.if-contains_id.false))
