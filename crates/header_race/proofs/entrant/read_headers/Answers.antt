use Rattle.header_try.proofs.First.{one_slot as only_slot, two_slots as both_slots}
use Rattle.header_race.proofs.Entrants.{one_slot, two_slots}
use Rattle.vc_outside.proofs.NothingMore.{nothing_more_twice}
use Rattle.header_race.proofs.entrant.read_headers.Goals as goal

pub returns-in_default-other-clause-listed : goal.returns-in_default-other-clause-listed
returns-in_default-other-clause-listed g c =
    let added = c.in-Ok.ensures.added in
    one_slot c.args.kind (g.D.Store.image c.args.disk.now) c.slots-slot.result.0 added.0 c.read_header.new.entrants.items
    c.args.entrants.now.items c.requires.empty added.1
    (only_slot c.args.kind c.slots-slot.result.0 c.slots-slot.result.1 c.in_default-other.is c.slots-slot.ensures) added.2

pub returns-clause-listed : goal.returns-clause-listed
returns-clause-listed g c =
    let added = c.in-Ok.ensures.added in let more = c.in-Ok-read_header.ensures.added in
    two_slots c.args.kind (g.D.Store.image c.args.disk.now) c.slots-slot.result.0 added.0 c.read_header-2.new.entrants.items
    c.args.entrants.now.items c.read_header.new.entrants.items (g.D.Store.image c.read_header.new.disk) c.in-Some.other more.0
    c.requires.empty added.1 more.1
    (both_slots c.args.kind c.slots-slot.result.0 c.in-Some.other c.slots-slot.result.1 c.in-Some.is c.slots-slot.ensures)
    added.2 c.in-Ok.ensures.image more.2

pub returns-clause-crash : goal.returns-clause-crash
returns-clause-crash g c =
    nothing_more_twice _ _ _ _ _ _ _ _ _ _
    (λ modelled t b from left. g.met.D.Store.counts_now modelled c.args.disk.now t b from left)
    c.read_header.ensures.crash c.read_header-2.ensures.crash
