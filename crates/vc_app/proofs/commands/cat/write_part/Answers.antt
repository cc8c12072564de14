use Rattle.std.proofs.Common.{◌/◌, List, ℕ, length}
use Rattle.std.specs.Prelude.{IfSome}
use Rattle.vc_outside.specs.Told.{Grows, GrowsByFront}
use Rattle.cascade_set.specs.Volume.{plain_units}
use Rattle.vc_app.proofs.Units.{plain_of_units}
use Rattle.vc_app.proofs.commands.cat.write_part.Given.{Over}
use Rattle.vc_app.proofs.commands.cat.write_part.Goals as goal
use Rattle.vc_app.proofs.commands.cat.write_part.Goals.{After-write_all}

-- whatever holds of the deciphered bytes holds of the plain units
plain : (g : Over) (c : After-write_all g) (P : List ℕ → Type 0) → P c.decipher_and_read-read.new.bytes
    → IfSome (g.D.Store.image c.args.disk.now) (λ b.
    P (plain_units (g.C.UnitCipher.deciphered c.args.cipher.now) b c.args.unit (length c.args.bytes.now / 512)))
plain g c P =
    plain_of_units (g.D.Store.image c.args.disk.now) (g.C.UnitCipher.deciphered c.args.cipher.now) c.args.bytes.now
    c.decipher_and_read-read.new.bytes c.args.unit P c.requires.were_read c.decipher_and_read-read.ensures.deciphered

-- a prefix of them was written in each case
front : (g : Over) (c : After-write_all g) → IfSome (g.D.Store.image c.args.disk.now) (λ b.
    GrowsByFront (g.O.Sink.contents c.args.out.now) (g.O.Sink.contents c.write_all.new.out)
    (plain_units (g.C.UnitCipher.deciphered c.args.cipher.now) b c.args.unit (length c.args.bytes.now / 512)))
front g c =
    plain g c (λ (x : List ℕ). GrowsByFront (g.O.Sink.contents c.args.out.now) (g.O.Sink.contents c.write_all.new.out) x)
    c.write_all.ensures.front

pub returns-in_err-write_all-clause-front : goal.returns-in_err-write_all-clause-front
returns-in_err-write_all-clause-front g c = front g (goal.at.returns-in_err-write_all-clause-front g c).After-write_all

pub returns-in_default-clause-front : goal.returns-in_default-clause-front
returns-in_default-clause-front g c = front g (goal.at.returns-in_default-clause-front g c).After-write_all

pub returns-clause-done : goal.returns-clause-done
returns-clause-done g c =
    plain g (goal.at.returns-clause-done g c).After-write_all
    (λ (x : List ℕ). Grows (g.O.Sink.contents c.args.out.now) (g.O.Sink.contents c.write_all.new.out) x)
    c.in_ok-write_all.ensures.done

pub returns-clause-front : goal.returns-clause-front
returns-clause-front g c = front g (goal.at.returns-clause-front g c).After-write_all
