use Rattle.std.proofs.Common.{◌≡◌}
use Rattle.vc_layout.specs.Kinds.{slots_of}
use Rattle.header_try.specs.Laws.Slots.{HasFieldsIn}
use Rattle.header_try.proofs.First.{first_of_first, first_of_second, found_none, found_some, none_of_one, none_of_two, one_slot, some_slots, two_slots, with_some, contains_second}
use Rattle.vc_outside.proofs.NothingMore.{nothing_more_twice}
use Rattle.header_try.proofs.open.open_plain.Goals as goal

pub returns-in-Some-clause-opened : goal.returns-in-Some-clause-opened
returns-in-Some-clause-opened g c =
    let image = g.D.Store.image c.args.disk.now in
    let slots = some_slots c.args.kind c.slots-slot.result.0 c.slots-slot.result.1 c.slots-slot.ensures in
    first_of_first image c.args.kind c.slots-slot.result.0 slots.0 c.in-Some.opened c.args.p.now c.args.pim
    slots.1 (found_some image c.slots-slot.result.0 c.args.p.now c.args.pim c.in-Ok.found c.in-Some.opened c.in-Some.is c.in-Ok.ensures.found)
    (with_some (λ o. HasFieldsIn image c.args.p.now c.args.pim o) c.in-Some.is c.in-Ok.ensures.fields)

pub returns-in_default-other-clause-none_valid : goal.returns-in_default-other-clause-none_valid
returns-in_default-other-clause-none_valid g c = λ _.
    none_of_one (g.D.Store.image c.args.disk.now) c.args.kind c.slots-slot.result.0 c.args.p.now c.args.pim
    (one_slot c.args.kind c.slots-slot.result.0 c.slots-slot.result.1 c.in_default-other.is c.slots-slot.ensures)
    (found_none (g.D.Store.image c.args.disk.now) c.slots-slot.result.0 c.args.p.now c.args.pim c.in-Ok.found c.in_default-found.is c.in-Ok.ensures.found)

pub returns-in-Some-found-clause-opened : goal.returns-in-Some-found-clause-opened
returns-in-Some-found-clause-opened g c =
    let now = g.D.Store.image c.open_slot.new.disk in
    first_of_second (g.D.Store.image c.args.disk.now) now c.args.kind c.slots-slot.result.0 c.in-Some-other.other
    c.in-Some-found.opened c.args.p.now c.args.pim c.in-Ok.ensures.image
    (two_slots c.args.kind c.slots-slot.result.0 c.in-Some-other.other c.slots-slot.result.1 c.in-Some-other.is c.slots-slot.ensures)
    (found_none (g.D.Store.image c.args.disk.now) c.slots-slot.result.0 c.args.p.now c.args.pim c.in-Ok.found c.in_default-found.is c.in-Ok.ensures.found)
    (found_some now c.in-Some-other.other c.args.p.now c.args.pim c.in-Ok-open_slot.found c.in-Some-found.opened c.in-Some-found.is c.in-Ok-open_slot.ensures.found)
    (with_some (λ o. HasFieldsIn now c.args.p.now c.args.pim o) c.in-Some-found.is c.in-Ok-open_slot.ensures.fields)

pub returns-in-Some-found-clause-slot : goal.returns-in-Some-found-clause-slot
returns-in-Some-found-clause-slot g c =
    contains_second (slots_of c.args.kind) c.slots-slot.result.0 c.in-Some-other.other c.in-Some-found.opened.slot
    (two_slots c.args.kind c.slots-slot.result.0 c.in-Some-other.other c.slots-slot.result.1 c.in-Some-other.is c.slots-slot.ensures)
    (with_some (λ o. o.slot ≡ c.in-Some-other.other) c.in-Some-found.is c.in-Ok-open_slot.ensures.slot)

pub returns-in-Some-found-clause-crash : goal.returns-in-Some-found-clause-crash
returns-in-Some-found-clause-crash g c =
    nothing_more_twice _ _ _ _ _ _ _ _ _ _
    (λ modelled t b from left. g.met.D.Store.counts_now modelled c.args.disk.now t b from left)
    c.open_slot.ensures.crash c.open_slot-2.ensures.crash

pub returns-in-None-clause-none_valid : goal.returns-in-None-clause-none_valid
returns-in-None-clause-none_valid g c = λ _.
    none_of_two (g.D.Store.image c.args.disk.now) (g.D.Store.image c.open_slot.new.disk) c.args.kind
    c.slots-slot.result.0 c.in-Some-other.other c.args.p.now c.args.pim c.in-Ok.ensures.image
    (two_slots c.args.kind c.slots-slot.result.0 c.in-Some-other.other c.slots-slot.result.1 c.in-Some-other.is c.slots-slot.ensures)
    (found_none (g.D.Store.image c.args.disk.now) c.slots-slot.result.0 c.args.p.now c.args.pim c.in-Ok.found c.in_default-found.is c.in-Ok.ensures.found)
    (found_none (g.D.Store.image c.open_slot.new.disk) c.in-Some-other.other c.args.p.now c.args.pim c.in-Ok-open_slot.found c.in-None.is c.in-Ok-open_slot.ensures.found)
