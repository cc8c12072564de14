use Rattle.std.proofs.Common.{sym, ◌∙◌}
use Rattle.header_seal.proofs.OpenedAgain.{opens_again, sealed_is}
use Rattle.header_seal.proofs.body.seal.Goals as goal

pub returns-clause-body : goal.returns-clause-body
returns-clause-body c =
    sealed_is c.args.algorithm c.args.derived.now c.write_plain-body.result c.header.new.body c.args.fields.now
    c.write_plain-body.ensures.body
    (c.header.ensures.enciphered ∙ c.new-keyed.ensures.enciphers 0 c.write_plain-body.result)

pub returns-clause-opens_again : goal.returns-clause-opens_again
returns-clause-opens_again c =
    opens_again c.args.algorithm c.args.derived.now c.write_plain-body.result c.header.new.body c.args.fields.now
    c.write_plain-body.ensures.body
    (c.header.ensures.enciphered ∙ c.new-keyed.ensures.enciphers 0 c.write_plain-body.result)
    (sym (c.new-keyed.ensures.deciphers 0 c.header.new.body) ∙ c.header.ensures.undone)
    c.header.array_long c.write_plain-body.ensures.again c.write_plain-body.ensures.valid
