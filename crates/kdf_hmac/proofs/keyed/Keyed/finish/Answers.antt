use Rattle.std.proofs.Common.{sym, subst}
use Rattle.vc_base.specs.Bytes.{xor_bytes}
use Rattle.kdf_hmac.specs.Hmac.{key_block, opad}
use Rattle.kdf_hmac.proofs.Keys.{mac_of_digest}
use Rattle.kdf_hmac.proofs.keyed.Keyed.finish.Goals as goal

pub returns : goal.returns
returns g c key text keyed taken_in =
    let prf = g.H.Hasher.prf in
    let outer = subst (λ o. g.H.Hasher.holds o (xor_bytes (key_block prf key) (opad prf))) (sym c.copied-outer.ensures) keyed.outside in
    mac_of_digest prf key text c.finish-digest.result c.finish.result c.output_length.result c.output_length.ensures
    (c.finish-digest.ensures _ taken_in) (c.finish.ensures _ (c.absorb.ensures _ outer))
