use Rattle.std.proofs.Common.{◌≡◌, ℕ, List, get_or, refl, ◌∙◌, w32}
use Rattle.std.specs.Int.{to_le_bytes}
use Rattle.vc_base.specs.Bytes.{to_bytes}
use Rattle.vc_base.proofs.Words.{to_le_bytes_4}
use Rattle.vc_base.specs.Words.{block_of}
use Rattle.twofish_core.proofs.words.block_of.Goals as goal

bytes : (xs : List ℕ) (x : ℕ) → xs ≡ to_le_bytes w32 x → xs ≡ to_bytes 4 x
bytes xs x is = is ∙ to_le_bytes_4 x

pub returns : goal.returns
unfolding block_of to_bytes
returns c =
    let s = c.args.s in
    rw (
      bytes c.to_le_bytes.result (get_or s 0 0) c.to_le_bytes.ensures,
      bytes c.to_le_bytes-2.result (get_or s 1 0) c.to_le_bytes-2.ensures,
      bytes c.to_le_bytes-3.result (get_or s 2 0) c.to_le_bytes-3.ensures,
      bytes c.to_le_bytes-4.result (get_or s 3 0) c.to_le_bytes-4.ensures,
    ) refl
