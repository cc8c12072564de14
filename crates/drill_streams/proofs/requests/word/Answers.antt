use Rattle.std.proofs.Common.{◌∙◌}
use Rattle.drill_streams.proofs.Drawn.{drawn_word}
use Rattle.drill_streams.proofs.requests.word.Goals as goal

pub returns : goal.returns
returns c =
    drawn_word c.args.n c.args.client c.args.index _ _ _ _ _ _ _
    (c.copy_from_slice.ensures.after ∙ c.to_le_bytes.ensures)
    c.from_seed-rng.ensures c.set_stream.ensures c.set_word_pos.ensures c.from.ensures c.next_word.ensures
