use Rattle.std.proofs.Common.{◌≡◌, take, replicate, [], ap, ◌∙◌, subst, arith}
use Rattle.vc_base.specs.Bytes.{xor_bytes}
use Rattle.kdf_hmac.specs.Hmac.{block_length}
use Rattle.kdf_hmac.proofs.Keys.{lengths}
use Rattle.kdf_hmac.proofs.Pads.{xor_with_byte}
use Rattle.kdf_hmac.proofs.keyed.pad_hasher.Goals as goal

pub returns : goal.returns
returns g c =
    let n = block_length g.H.Hasher.prf in
    let pad = c.bytes.b-items in
    let sizes = lengths g.H.Hasher.prf in
    let mixed : take n pad ≡ xor_bytes (take n c.args.block.now) (replicate n c.args.byte)
    = xor_with_byte n 128 pad c.args.block.now c.args.byte sizes.block_fits (omega arith) (omega arith)
    (λ k h. c.bytes.invariant.1 k (omega arith)) in
    let taken_in : take c.block_length.result pad ≡ xor_bytes (take n c.args.block.now) (replicate n c.args.byte)
    = ap (λ k. take k pad) c.block_length.ensures ∙ mixed in
    subst (λ m. g.H.Hasher.holds c.absorb.new.self m) taken_in (c.absorb.ensures [] c.start-hasher.ensures)
