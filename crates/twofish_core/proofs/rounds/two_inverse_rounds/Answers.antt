use Rattle.std.proofs.Common.{ap, ◌∙◌}
use Rattle.twofish_core.specs.Twofish.{g_under, inverse_feistel}
use Rattle.twofish_core.proofs.Steps.{two_inverse_rounds_more}
use Rattle.twofish_core.proofs.rounds.two_inverse_rounds.Goals as goal

pub returns : goal.returns
returns c end m n before after so_far =
    let g = g_under c.args.boxes.now.words in
    let k = c.args.keys.now in
    let r = c.args.r in
    c.inverse_feistel.ensures ∙ ap (inverse_feistel g k r) c.inverse_feistel-before.ensures
    ∙ two_inverse_rounds_more g k end c.args.s r m n before after so_far
