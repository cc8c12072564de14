use Rattle.std.proofs.Common.{◌≡◌, ◌<◌, ◌≤◌, ◌+◌, ◌-◌, ℕ, false, leb, inl, inr, sym, subst, arith}
use Rattle.std.proofs.lemmas.Bool.Decides.{leb_tells}
use Rattle.io_core.specs.State.{State}
use Rattle.io_core.proofs.PastTheEnd.{sound_beyond}
use Rattle.io_core.proofs.state.Core.fits.Goals as goal

-- what a failed comparison says
less : (x y : ℕ) → leb x y ≡ false → y < x
less x y past = elim (leb_tells x y) [
  | inl (t, le) ↦ cc
  | inr (f, more) ↦ more
]

pub returns-then-first-self-clause-sound : goal.returns-then-first-self-clause-sound
returns-then-first-self-clause-sound g c base h caller number past sound =
    sound_beyond g.S.Store g.C.UnitCipher base h c.args.self.now caller number c.args.first c.args.count
    (λ fits.
    let within : c.args.first + c.args.count ≤ c.self.inside.geometry.sectors
    = subst (λ (t : State _ _). c.args.first + c.args.count ≤ t.geometry.sectors) (sym c.self.view_is) fits in
    let out : c.self.inside.geometry.sectors - c.args.first < c.args.count = less _ _ past in
    omega (arith, out, within)) sound

pub returns-else-first-self-clause-sound : goal.returns-else-first-self-clause-sound
returns-else-first-self-clause-sound g c base h caller number past sound =
    sound_beyond g.S.Store g.C.UnitCipher base h c.args.self.now caller number c.args.first c.args.count
    (λ fits.
    let within : c.args.first + c.args.count ≤ c.self.inside.geometry.sectors
    = subst (λ (t : State _ _). c.args.first + c.args.count ≤ t.geometry.sectors) (sym c.self.view_is) fits in
    let out : c.self.inside.geometry.sectors < c.args.first = less _ _ past in
    omega (arith, out, within)) sound
