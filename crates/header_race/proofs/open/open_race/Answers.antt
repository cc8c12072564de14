use Rattle.std.proofs.Common.{◌≡◌, Option, refl, sym, subst}
use Rattle.vc_layout.specs.Kinds.{slots_of}
use Rattle.header_seal.specs.declared.opened.Opened.{Opened}
use Rattle.header_race.specs.declared.entrant.Numbers.{Numbers}
use Rattle.header_race.specs.Laws.Race.{entrants_of, IsListed, IsOf, IsWon}
use Rattle.header_race.proofs.Opening.{meets_is, none_opened, opened_is, slot_is}
use Rattle.header_race.proofs.open.open_race.Goals as goal

pub returns-in-Ok-Some-clause-opened : goal.returns-in-Ok-Some-clause-opened
returns-in-Ok-Some-clause-opened g c =
    let image = g.D.Store.image c.args.disk.now in
    let r : Numbers = record { entrants = c.of.result; password = c.of-2.result; pim = c.args.pim; len = c.len-len.result } in
    let same : entrants_of r ≡ c.read_headers.new.entrants.items = λ i. (c.of.ensures i).items in
    let listed : IsListed c.args.kind image (entrants_of r)
    = subst (IsListed c.args.kind image) (sym same) c.in-Ok-read_headers.ensures.listed in
    let is : IsOf r c.args.p.now c.args.pim c.len-len.result
    = record { password_is = c.of-2.ensures; pim_is = refl; len_is = refl; few = listed.few } in
    opened_is image (g.D.Store.size c.args.disk.now) r c.args.p.now c.args.pim c.len-len.result c.args.kind
    c.in-Ok-Some.opened is c.len-len.ensures.len (g.met.D.Store.image_is_whole c.args.disk.now) listed.kinds listed.read
    (subst (λ (x : Option Opened). IsWon r x) c.in-Ok-Some.field-0-is c.in-Ok-Some.ensures)

pub returns-in-Ok-Some-clause-slot : goal.returns-in-Ok-Some-clause-slot
returns-in-Ok-Some-clause-slot g c =
    let image = g.D.Store.image c.args.disk.now in
    let r : Numbers = record { entrants = c.of.result; password = c.of-2.result; pim = c.args.pim; len = c.len-len.result } in
    let same : entrants_of r ≡ c.read_headers.new.entrants.items = λ i. (c.of.ensures i).items in
    let listed : IsListed c.args.kind image (entrants_of r)
    = subst (IsListed c.args.kind image) (sym same) c.in-Ok-read_headers.ensures.listed in
    slot_is r c.in-Ok-Some.opened (slots_of c.args.kind) listed.slots (subst (λ (x : Option Opened). IsWon r x) c.in-Ok-Some.field-0-is c.in-Ok-Some.ensures)

pub returns-in-Ok-Some-clause-meets : goal.returns-in-Ok-Some-clause-meets
returns-in-Ok-Some-clause-meets g c =
    let image = g.D.Store.image c.args.disk.now in
    let r : Numbers = record { entrants = c.of.result; password = c.of-2.result; pim = c.args.pim; len = c.len-len.result } in
    let same : entrants_of r ≡ c.read_headers.new.entrants.items = λ i. (c.of.ensures i).items in
    let listed : IsListed c.args.kind image (entrants_of r)
    = subst (IsListed c.args.kind image) (sym same) c.in-Ok-read_headers.ensures.listed in
    let is : IsOf r c.args.p.now c.args.pim c.len-len.result
    = record { password_is = c.of-2.ensures; pim_is = refl; len_is = refl; few = listed.few } in
    meets_is r c.in-Ok-Some.opened c.args.p.now c.args.pim c.len-len.result (g.D.Store.size c.args.disk.now) is
    c.len-len.ensures.len (subst (λ (x : Option Opened). IsWon r x) c.in-Ok-Some.field-0-is c.in-Ok-Some.ensures)

pub returns-in-Ok-None-clause-none_valid : goal.returns-in-Ok-None-clause-none_valid
returns-in-Ok-None-clause-none_valid g c =
    let image = g.D.Store.image c.args.disk.now in
    let r : Numbers = record { entrants = c.of.result; password = c.of-2.result; pim = c.args.pim; len = c.len-len.result } in
    let same : entrants_of r ≡ c.read_headers.new.entrants.items = λ i. (c.of.ensures i).items in
    let listed : IsListed c.args.kind image (entrants_of r)
    = subst (IsListed c.args.kind image) (sym same) c.in-Ok-read_headers.ensures.listed in
    let is : IsOf r c.args.p.now c.args.pim c.len-len.result
    = record { password_is = c.of-2.ensures; pim_is = refl; len_is = refl; few = listed.few } in
    λ _. none_opened image (g.D.Store.size c.args.disk.now) r c.args.p.now c.args.pim c.len-len.result c.args.kind is
    c.len-len.ensures.len (g.met.D.Store.image_is_whole c.args.disk.now) listed.kinds listed.read (subst (λ (x : Option Opened). IsWon r x) c.in-Ok-None.field-0-is c.in-Ok-None.ensures)
