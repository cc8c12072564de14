use Rattle.std.proofs.Common.{◌/◌, List, ℕ, [], length, get_or, ap, ◌∙◌, arith}
use Rattle.vc_base.specs.Bytes.{xor_bytes}
use Rattle.aes_core.specs.Aes.{add_round_key}
use Rattle.aes_core.specs.Laws.Planes.{block_of, rows}
use Rattle.vc_base.proofs.Chunks.{chunk_is_piece}
use Rattle.aes_core.proofs.keys.with_round_key.Goals as goal

pub returns : goal.returns
unfolding add_round_key
returns c =
    let keys = c.args.keys.now in
    let r = c.args.round in
    record {
      planes = c.added.ensures.planes;
      each = λ k below.
          c.added.ensures.each k below
          ∙ ap (xor_bytes (block_of c.args.x k))
          (ap (λ (g : List (List ℕ)). block_of g k) c.gather.ensures.rows
          ∙ ap (λ (cs : List (List ℕ)). block_of (rows (get_or cs r [])) k) c.as_chunks.ensures.front
          ∙ ap (λ (g : List ℕ). block_of (rows g) k) (chunk_is_piece 128 (length keys.planes / 128) keys.planes r (omega arith))
          ∙ keys.spread.each r k c.requires.round below);
    }
