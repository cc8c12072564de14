use Rattle.std.proofs.Common.{◌≡◌, length, refl}
use Rattle.std.specs.Prelude.{IfSome}
use Rattle.header_seal.specs.Sealed.{header_at}
use Rattle.header_try.proofs.First.{found_in, has_fields_in_all, header_read, length_read}
use Rattle.header_try.proofs.open.open_slot.Goals as goal

pub returns-clause-found : goal.returns-clause-found
returns-clause-found g c =
    let image = g.D.Store.image c.args.disk.now in
    let whole : IfSome image (λ b. length b ≡ c.args.len)
    = length_read image (g.D.Store.size c.args.disk.now) c.args.len c.requires.size (g.met.D.Store.image_is_whole c.args.disk.now) in
    let read : IfSome image (λ b. c.read_at.new.out ≡ header_at c.args.slot b)
    = header_read image c.read_at.new.out c.args.slot c.slot_at.result 512 c.args.len c.slot_at.ensures refl whole c.in-Ok.ensures.read in
    found_in image c.read_at.new.out c.args.p.now c.args.slot c.args.pim c.args.len _ read whole c.try_header.ensures.first

pub returns-clause-fields : goal.returns-clause-fields
returns-clause-fields g c =
    let image = g.D.Store.image c.args.disk.now in
    let whole : IfSome image (λ b. length b ≡ c.args.len)
    = length_read image (g.D.Store.size c.args.disk.now) c.args.len c.requires.size (g.met.D.Store.image_is_whole c.args.disk.now) in
    let read : IfSome image (λ b. c.read_at.new.out ≡ header_at c.args.slot b)
    = header_read image c.read_at.new.out c.args.slot c.slot_at.result 512 c.args.len c.slot_at.ensures refl whole c.in-Ok.ensures.read in
    has_fields_in_all image c.read_at.new.out c.args.p.now c.args.slot c.args.pim c.try_header.result
    read c.try_header.ensures.slot c.try_header.ensures.fields
