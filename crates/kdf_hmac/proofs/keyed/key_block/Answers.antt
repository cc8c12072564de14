use Rattle.std.proofs.Common.{◌++◌, take, drop, length, replicate, [], ap, ◌∙◌, arith}
use Rattle.kdf_hmac.specs.Hmac.{block_length}
use Rattle.kdf_hmac.proofs.Keys.{block_of_short, block_of_long}
use Rattle.kdf_hmac.proofs.keyed.key_block.Goals as goal

pub returns-then-key-longest : goal.returns-then-key-longest
returns-then-key-longest g c =
    let prf = g.H.Hasher.prf in
    let key = c.args.key.now in
    ap (λ w. take (block_length prf) (w ++ drop (length key) (replicate 128 0))) c.copy_from_slice.ensures.after
    ∙ block_of_short prf key (omega arith)

pub returns-else-key-longest : goal.returns-else-key-longest
returns-else-key-longest g c =
    block_of_long g.H.Hasher.prf c.args.key.now _ (omega arith)
    (c.copy_from_slice-else-key-longest.ensures.after ∙ c.finish.ensures _ (c.absorb.ensures [] c.start-hasher.ensures))
