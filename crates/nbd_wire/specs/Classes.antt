-- What a head asks for, if the volume has sectors of `sector` bytes. docs/PROTOCOL.md, "Requests", has the rules in the
-- same order.
--
-- has_fua r               the lowest flag is set: a write is to be followed by a flush
-- has_others r            another flag is set
-- are_sectors sector r    offset and length are whole sectors, at least one and at most 32 MiB
-- asked sector r          what the first rule that applies gives
use Rattle.std.specs.Prelude.{◌&&◌, ◌==◌, nat_lt, nat_le, ℕ, ◌/◌, ◌%◌, ◌^◌, Bool, if◌then◌else◌}
use Rattle.nbd_wire.specs.declared.ask.Ask.{Ask}
use Rattle.nbd_wire.specs.declared.ask.Ask.TheVariants.{Read, Write, Flush, Disconnect, Malformed}
use Rattle.nbd_wire.specs.declared.request.Request.{Request}

abbrev pub has_fua : Request → Bool
has_fua r = r.flags == 1

abbrev pub has_others : Request → Bool
has_others r = nat_lt 1 r.flags

abbrev pub are_sectors : ℕ → Request → Bool
are_sectors sector r =
    nat_lt 0 r.length && nat_le r.length (2 ^ 25) && (r.length % sector == 0) && (r.offset % sector == 0)

abbrev pub transfer : ℕ → Request → Ask
transfer sector r =
    if r.kind == 0
    then Read (r.offset / sector) (r.length / sector)
    else Write (r.offset / sector) (r.length / sector) (has_fua r)

abbrev pub asked : ℕ → Request → Ask
asked sector r =
    if r.kind == 2 then Disconnect else
    (if has_others r then Malformed else
    (if r.kind == 3 then Flush else
    (if nat_lt 1 r.kind then Malformed else
    (if are_sectors sector r then transfer sector r else Malformed))))
