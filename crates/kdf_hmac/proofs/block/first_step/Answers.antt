use Rattle.std.proofs.Common.{◌≡◌, ◌++◌, sym, ap, ◌∙◌, subst, append_assoc}
use Rattle.vc_base.specs.Bytes.{xor_bytes}
use Rattle.kdf_hmac.specs.Hmac.{key_block, ipad}
use Rattle.kdf_hmac.specs.Pbkdf2.{u}
use Rattle.kdf_hmac.proofs.Steps.{stepped_one}
use Rattle.kdf_hmac.proofs.block.first_step.Goals as goal

pub returns : goal.returns
unfolding u
returns g c password keyed =
    let prf = g.H.Hasher.prf in
    let salt = c.args.salt.now in
    let pad = xor_bytes (key_block prf password) (ipad prf) in
    let copied = subst (λ h. g.H.Hasher.holds h pad) (sym c.copied-inner.ensures) keyed.inside in
    let absorbed = c.absorb-2.ensures (pad ++ salt) (c.absorb.ensures pad copied) in
    let text : (pad ++ salt) ++ c.to_be_bytes.result ≡ pad ++ u prf password salt c.args.number 0
    = append_assoc pad salt c.to_be_bytes.result ∙ ap (λ b. pad ++ (salt ++ b)) c.to_be_bytes.ensures in
    stepped_one prf password salt c.args.number c.finish-mac.result
    (c.finish-mac.ensures password (u prf password salt c.args.number 0) keyed
    (subst (λ m. g.H.Hasher.holds c.absorb-2.new.self m) text absorbed))
