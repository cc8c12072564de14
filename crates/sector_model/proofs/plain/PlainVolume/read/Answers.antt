use Rattle.std.proofs.Common.{rules, ◌≡◌, ℕ, ◌*◌, ◌/◌, ◌-◌, ◌+◌, List, length, take, drop, refl, sym, ap, subst, ◌∙◌, arith}
use Rattle.sector_model.specs.Array.{AreSectors, Fits, sectors_of}
use Rattle.sector_model.specs.Plain.{Plain}
use Rattle.sector_model.proofs.Overwritten.{place_in_bytes, read_holds}
use Rattle.sector_model.proofs.Stands.{stands_beyond, stands_read}
use Rattle.sector_model.proofs.plain.PlainVolume.read.Goals as goal

pub returns-then-not-fits-clause-stands : goal.returns-then-not-fits-clause-stands
returns-then-not-fits-clause-stands c a h caller number s =
    let beyond : ¬ Fits c.args.self.now.volume c.args.first (sectors_of c.args.self.now.volume c.args.out.now) = search rules in
    stands_beyond a h c.args.self.now caller number c.args.first (sectors_of c.args.self.now.volume c.args.out.now) beyond s

pub returns-clause-read : goal.returns-clause-read
returns-clause-read c _ =
    let p : Plain = c.args.self.now in
    let at : ℕ = c.args.first * c.from-sector.result in
    let place : at ≡ 512 * (p.volume.per_sector * c.args.first)
    = place_in_bytes p.volume c.args.first c.self.inside.sector at c.self.invariant.0
    (ap (λ (q : Plain). q.volume.per_sector) c.self.view_is) (ap (λ (n : ℕ). c.args.first * n) c.from-sector.ensures) in
    read_holds p.volume c.args.first at (at + length c.args.out.now - at) p.bytes c.copy_from_slice.new.self place
    (c.copy_from_slice.ensures.after ∙ ap (λ (b : List ℕ). take (at + length c.args.out.now - at) (drop at b))
    (c.deref.ensures.value ∙ ap (λ (q : Plain). q.bytes) c.self.view_is))
    (omega (arith, c.copy_from_slice.ensures.len))

pub returns-clause-stands : goal.returns-clause-stands
returns-clause-stands c a h caller number s =
    let p : Plain = c.args.self.now in
    let out : List ℕ = c.copy_from_slice.new.self in
    let long : length c.args.out.now ≡ length out = sym c.copy_from_slice.ensures.len in
    let whole : AreSectors p.volume out = subst (λ (n : ℕ). n ≡ 512 * (p.volume.per_sector * (n / 512 / p.volume.per_sector))) long c.requires.whole in
    let before : Fits p.volume c.args.first (sectors_of p.volume c.args.out.now) = search rules in
    let fits : Fits p.volume c.args.first (sectors_of p.volume out) = subst (λ (n : ℕ). Fits p.volume c.args.first (n / 512 / p.volume.per_sector)) long before in
    stands_read a h p caller number c.args.first out whole fits (returns-clause-read c refl) s
