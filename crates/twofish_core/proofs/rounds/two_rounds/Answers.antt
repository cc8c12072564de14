use Rattle.std.proofs.Common.{ap, ◌∙◌, ◌+◌}
use Rattle.twofish_core.specs.Twofish.{g_under, feistel}
use Rattle.twofish_core.proofs.Steps.{two_rounds_more}
use Rattle.twofish_core.proofs.rounds.two_rounds.Goals as goal

pub returns : goal.returns
returns c start m n before after so_far =
    let g = g_under c.args.boxes.now.words in
    let k = c.args.keys.now in
    let r = c.args.r in
    c.feistel.ensures ∙ ap (feistel g k (r + 1)) c.feistel-next.ensures
    ∙ two_rounds_more g k start c.args.s r m n before after so_far
