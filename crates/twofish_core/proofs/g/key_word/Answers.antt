use Rattle.std.proofs.Common.{refl, ap, ◌∙◌}
use Rattle.vc_base.specs.Bytes.{from_bytes}
use Rattle.vc_base.proofs.Words.{from_le_bytes_4}
use Rattle.twofish_core.specs.Laws.Words.{same_four}
use Rattle.twofish_core.proofs.g.key_word.Goals as goal

pub returns : goal.returns
returns c =
    c.from_le_bytes.ensures
    ∙ from_le_bytes_4 _ refl
    ∙ ap from_bytes (same_four _ _ _ _ _ _ _ _ c.row_times.ensures c.row_times-2.ensures
    c.row_times-3.ensures c.row_times-4.ensures)
