use Rattle.std.proofs.Common.{ℕ, refl, subst}
use Rattle.vc_layout.specs.Layout.{IsHideable}
use Rattle.volume_format.specs.Formatted.{material_of}
use Rattle.volume_format.proofs.HiddenImages.{meets_hidden, meets_hidden_backup, headers_of_hidden}
use Rattle.volume_format.proofs.hidden.format_hidden.Goals as goal

pub returns-in-Ok-clause-headers : goal.returns-in-Ok-clause-headers
returns-in-Ok-clause-headers g c =
    headers_of_hidden (g.D.Store.image c.args.disk.now) (g.D.Store.image c.make_hidden.new.disk) c.args.rng.now c.args.spec.now
    c.in-Ok.ensures.written

pub returns-in-Ok-clause-meets : goal.returns-in-Ok-clause-meets
returns-in-Ok-clause-meets g c =
    let size : ℕ = g.D.Store.size c.args.disk.now in
    let fits : IsHideable size c.args.spec.now.size c.args.spec.now.sector
    = subst (λ (n : ℕ). IsHideable n c.args.spec.now.size c.args.spec.now.sector) c.len-len.ensures.len
    (c.in-Some.ensures.hideable.0 refl) in (
      meets_hidden size c.args.spec.now (material_of c.args.rng.now 0 c.args.spec.now.algorithm) fits,
      meets_hidden_backup size c.args.spec.now (material_of c.args.rng.now 0 c.args.spec.now.algorithm) fits,
    )
