use Rattle.std.proofs.Common.{◌≡◌, List, ◌∷◌, [], ◌++◌, length, refl, sym, ap, ◌∙◌, append_assoc}
use Rattle.std.specs.Prelude.{IfSome}
use Rattle.kdf_hmac.specs.declared.prf.Prf.TheVariants.{Sha256}
use Rattle.header_seal.specs.Sealed.{header_at}
use Rattle.header_try.proofs.First.{header_read, length_read}
use Rattle.header_race.specs.declared.entrant.Entrant.{Entrant}
use Rattle.header_race.specs.Laws.Race.{of_slot}
use Rattle.header_race.proofs.entrant.read_header.Goals as goal

pub returns-clause-added : goal.returns-clause-added
returns-clause-added g c =
    let image = g.D.Store.image c.args.disk.now in
    let whole : IfSome image (λ b. length b ≡ c.args.len)
    = length_read image (g.D.Store.size c.args.disk.now) c.args.len c.requires.size (g.met.D.Store.image_is_whole c.args.disk.now) in
    let read : IfSome image (λ b. c.read_at.new.out ≡ header_at c.args.slot b)
    = header_read image c.read_at.new.out c.args.slot c.slot_at.result 512 c.args.len c.slot_at.ensures refl whole c.in-Ok.ensures.read in
    let second : Entrant = record { slot = c.args.slot; prf = Sha256; header = c.read_at.new.out } in (
      c.read_at.new.out,
      c.push_reserved-2.ensures.items ∙ ap (λ (es : List Entrant). es ++ second ∷ []) c.push_reserved.ensures.items
          ∙ append_assoc c.args.entrants.now.items _ _,
      read,
    )
