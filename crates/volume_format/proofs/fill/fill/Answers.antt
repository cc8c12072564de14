use Rattle.std.proofs.Common.{◌≡◌, ℕ, ◌%◌, length, take, refl, ◌∙◌, arith}
use Rattle.volume_format.proofs.Draws.{advanced_none}
use Rattle.volume_format.proofs.Parts.{filled_more, filled_none, part_length, place_more}
use Rattle.volume_format.proofs.fill.fill.Goals as goal

pub parts-init : goal.parts-init
parts-init g c = record {
  inside = omega arith;
  whole = refl;
  drawn = advanced_none c.args.rng.now
      (omega (arith, c.get_word_pos-place.ensures.value, c.get_word_pos-place.ensures.bound));
  filled = filled_none (g.D.Store.image c.args.disk.now) c.args.rng.now;
  size = c.requires.size;
  later = omega arith;
}

pub parts-preserved : goal.parts-preserved
parts-preserved g c =
    let n : ℕ = c.min-part.result in
    let place : c.parts.at % 4 ≡ 0 = omega (arith, c.parts.invariant.whole) in
    let same : length (take n c.parts.buffer) ≡ n
    = part_length n c.parts.buffer (omega arith) (omega (arith, c.min-part.ensures)) in
    record {
      inside = omega (arith, c.min-part.ensures, c.parts.invariant.inside);
      whole = omega (
        arith,
        c.min-part.ensures,
        c.parts.invariant.inside,
        c.parts.invariant.whole,
        c.requires.whole,
      );
      drawn = place_more c.args.rng.now c.parts.rng c.fill_part.new.rng c.parts.at _ n place same
          c.parts.invariant.drawn c.fill_part.ensures.drawn;
      filled = filled_more (g.D.Store.image c.args.disk.now) (g.D.Store.image c.parts.disk)
          (g.D.Store.image c.fill_part.new.disk)
          c.args.rng.now c.parts.rng c.parts.at _ n (g.D.Store.size c.parts.disk) place
          (omega (
            arith,
            c.min-part.ensures,
            c.parts.invariant.inside,
            c.parts.invariant.whole,
            c.requires.whole,
          )) same
          (omega (arith, c.parts.invariant.inside, c.parts.invariant.size))
          (g.met.D.Store.image_is_whole c.parts.disk) c.parts.invariant.drawn
          c.parts.invariant.filled
          c.in-Ok.ensures.written;
      size = c.fill_part.ensures.size ∙ c.parts.invariant.size;
      later = omega (arith, c.fill_part.ensures.cause.later, c.parts.invariant.later);
    }
