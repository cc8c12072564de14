use Rattle.std.proofs.Common.{length, arith}
use Rattle.volume_format.proofs.Draws.{drawn_bytes, drawn_place}
use Rattle.volume_format.proofs.draw.next_bytes.Goals as goal

pub returns-clause-bytes : goal.returns-clause-bytes
returns-clause-bytes c =
    drawn_bytes c.args.rng.now c.fill_bytes_via_u32.new.rng (length c.args.bytes.now)
    c.fill_bytes_via_u32.new.dst
    (omega (arith, c.get_word_pos-place.ensures.value, c.get_word_pos-place.ensures.bound))
    c.requires
    c.fill_bytes_via_u32.ensures

pub returns-clause-drawn : goal.returns-clause-drawn
returns-clause-drawn c =
    drawn_place c.args.rng.now c.fill_bytes_via_u32.new.rng (length c.args.bytes.now)
    c.fill_bytes_via_u32.new.dst
    (omega (arith, c.get_word_pos-place.ensures.value, c.get_word_pos-place.ensures.bound))
    c.requires
    c.fill_bytes_via_u32.ensures
