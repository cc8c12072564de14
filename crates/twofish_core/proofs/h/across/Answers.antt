use Rattle.std.proofs.Common.{◌≡◌, ℕ, List, slice_index, ap, ◌∙◌, w32}
use Rattle.std.specs.Int.{to_le_bytes}
use Rattle.vc_base.specs.Bytes.{to_bytes}
use Rattle.vc_base.proofs.Words.{to_le_bytes_4}
use Rattle.twofish_core.specs.Laws.Columns.{across}
use Rattle.twofish_core.specs.Laws.Words.{same_four}
use Rattle.twofish_core.proofs.h.across.Goals as goal

byte : (i x : ℕ) (xs : List ℕ) → xs ≡ to_le_bytes w32 x → slice_index xs i ≡ slice_index (to_bytes 4 x) i
byte i x xs is = ap (λ (ys : List ℕ). slice_index ys i) (is ∙ to_le_bytes_4 x)

pub returns : goal.returns
unfolding across
returns c =
    same_four _ _ _ _ _ _ _ _
    (byte c.args.i _ _ c.to_le_bytes.ensures) (byte c.args.i _ _ c.to_le_bytes-2.ensures)
    (byte c.args.i _ _ c.to_le_bytes-3.ensures) (byte c.args.i _ _ c.to_le_bytes-4.ensures)
