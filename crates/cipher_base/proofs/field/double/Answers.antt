use Rattle.std.proofs.Common.{ℕ, ◌*◌, ap, sym, ◌∙◌}
use Rattle.vc_base.specs.Bytes.{IsBytes, to_bytes}
use Rattle.vc_base.specs.Polynomial.{reduced}
use Rattle.cipher_base.specs.Field.{xts_polynomial}
use Rattle.cipher_base.proofs.Doubling.{times_power_one}
use Rattle.cipher_base.proofs.field.double.Goals as goal

pub returns : goal.returns
returns c =
    let is_bytes : IsBytes 16 c.args.t.now = record { count = c.told-t; each = c.fits-t } in
    c.bytes.ensures
    ∙ ap (to_bytes 16) (c.double_words-low.ensures ∙ ap (λ (x : ℕ). reduced 128 xts_polynomial (2 * x)) c.words-low.ensures)
    ∙ sym (times_power_one c.args.t.now is_bytes)
