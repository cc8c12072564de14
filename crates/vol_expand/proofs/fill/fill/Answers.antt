use Rattle.std.proofs.Common.{◌≡◌, ◌+◌, ◌-◌, ◌*◌, length, take, ◌∙◌, arith}
use Rattle.header_change.proofs.Steps.{on_ok, when_ok}
use Rattle.vol_expand.specs.Expanded.{fill_bytes, words_of}
use Rattle.vol_expand.proofs.Filling.{filled_more, length-fill, place_more, words_long}
use Rattle.vol_expand.proofs.Moments.{then_written}
use Rattle.vol_expand.proofs.Parts.{both_before, both_then, stays_by_writing}
use Rattle.vol_expand.proofs.fill.fill.Goals as goal

pub returns-in_err-fill_part-clause-outside : goal.returns-in_err-fill_part-clause-outside
returns-in_err-fill_part-clause-outside g c =
    both_then 0 c.args.from (g.D.Store.size c.parts.disk) (g.D.Store.image c.args.disk.now)
    (g.D.Store.image c.parts.disk) (g.D.Store.image c.fill_part.new.disk)
    (omega (arith, c.parts.invariant.size, c.requires.from)) (g.met.D.Store.image_is_whole c.parts.disk)
    (stays_by_writing c.args.from c.args.from (g.D.Store.size c.args.disk.now)
    (fill_bytes c.args.rng.now (c.parts.at - c.args.from)) (g.D.Store.image c.args.disk.now)
    (g.D.Store.image c.parts.disk) (omega arith)
    (omega (arith, length-fill c.args.rng.now (c.parts.at - c.args.from), c.requires.size, c.parts.invariant.inside, c.parts.invariant.behind))
    (g.met.D.Store.image_is_whole c.args.disk.now) c.parts.invariant.filled)
    (both_before c.parts.at 32768 c.args.from (g.D.Store.image c.parts.disk) (g.D.Store.image c.fill_part.new.disk)
    c.parts.invariant.behind c.fill_part.ensures.outside)

pub returns-in_err-fill_part-clause-crash : goal.returns-in_err-fill_part-clause-crash
returns-in_err-fill_part-clause-crash g c =
    then_written c.args.from c.args.size c.parts.at 32768 c.parts.invariant.behind c.requires.from g.D.Store.tells
    (g.D.Store.moment c.args.disk.now) (g.D.Store.moment c.parts.disk) (g.D.Store.moment c.fill_part.new.disk)
    (g.D.Store.left_since c.args.disk.now) (g.D.Store.left_since c.parts.disk) (g.D.Store.left_since c.fill_part.new.disk)
    (g.D.Store.may_leave c.args.disk.now) (g.D.Store.may_leave c.parts.disk) (g.D.Store.may_leave c.fill_part.new.disk)
    c.parts.invariant.crash c.fill_part.ensures.crash

pub parts-preserved : goal.parts-preserved
parts-preserved g c = record {
  behind = omega (arith, c.parts.invariant.behind);
  inside = omega (arith, c.parts-test.true, c.parts.invariant.inside);
  whole = omega (arith, c.parts.invariant.behind, c.parts.invariant.whole);
  drawn = place_more c.args.rng.now c.parts.rng c.fill_part.new.rng (c.parts.at - c.args.from) 32768
      (length c.parts.buffer) (c.parts.at + 32768 - c.args.from) c.parts.invariant.whole (omega arith)
      (omega (arith, c.parts.invariant.behind)) c.parts.invariant.drawn c.fill_part.ensures.drawn;
  filled = filled_more (g.D.Store.image c.args.disk.now) (g.D.Store.image c.parts.disk)
      (g.D.Store.image c.fill_part.new.disk) c.args.rng.now c.parts.rng c.args.from c.parts.at (c.parts.at - c.args.from)
      32768 (length c.parts.buffer) (c.parts.at + 32768 - c.args.from) (g.D.Store.size c.args.disk.now)
      c.parts.invariant.whole (omega arith)
      (omega (arith, c.parts.invariant.behind)) (omega (arith, c.parts.invariant.behind))
      (omega (arith, c.parts.invariant.inside, c.requires.size)) (g.met.D.Store.image_is_whole c.args.disk.now)
      c.parts.invariant.drawn c.parts.invariant.filled c.in_ok-fill_part.ensures.written;
  size = c.fill_part.ensures.size ∙ c.parts.invariant.size;
  later = omega (arith, c.fill_part.ensures.cause.later, c.parts.invariant.later);
  crash = then_written c.args.from c.args.size c.parts.at 32768 c.parts.invariant.behind c.requires.from g.D.Store.tells
      (g.D.Store.moment c.args.disk.now) (g.D.Store.moment c.parts.disk) (g.D.Store.moment c.fill_part.new.disk)
      (g.D.Store.left_since c.args.disk.now) (g.D.Store.left_since c.parts.disk) (g.D.Store.left_since c.fill_part.new.disk)
      (g.D.Store.may_leave c.args.disk.now) (g.D.Store.may_leave c.parts.disk) (g.D.Store.may_leave c.fill_part.new.disk)
      c.parts.invariant.crash c.fill_part.ensures.crash;
}

pub returns-then-at-size-clause-outside : goal.returns-then-at-size-clause-outside
returns-then-at-size-clause-outside g c =
    stays_by_writing c.args.from c.args.from (g.D.Store.size c.args.disk.now)
    (fill_bytes c.args.rng.now (c.parts.at - c.args.from)) (g.D.Store.image c.args.disk.now)
    (g.D.Store.image c.parts.disk) (omega arith)
    (omega (arith, length-fill c.args.rng.now (c.parts.at - c.args.from), c.requires.size, c.parts.invariant.inside, c.parts.invariant.behind))
    (g.met.D.Store.image_is_whole c.args.disk.now) c.parts.invariant.filled

pub returns-clause-filled : goal.returns-clause-filled
returns-clause-filled g c =
    let words : length (take (c.div_ceil.result * 4) c.parts.buffer) ≡ words_of (c.args.size - c.parts.at)
    = words_long (c.args.size - c.parts.at) c.div_ceil.result c.parts.buffer c.div_ceil.array_long
    (omega (arith, c.parts-test.false)) c.div_ceil.ensures in
    on_ok c.fill_part-2.result (λ part. filled_more (g.D.Store.image c.args.disk.now) (g.D.Store.image c.parts.disk)
    (g.D.Store.image c.fill_part-2.new.disk) c.args.rng.now c.parts.rng c.args.from c.parts.at (c.parts.at - c.args.from)
    (c.args.size - c.parts.at) (length (take (c.div_ceil.result * 4) c.parts.buffer)) (c.args.size - c.args.from)
    (g.D.Store.size c.args.disk.now) c.parts.invariant.whole words
    (omega (arith, c.parts.invariant.behind))
    (omega (arith, c.parts.invariant.behind, c.parts.invariant.inside))
    (omega (arith, c.parts.invariant.inside, c.requires.size)) (g.met.D.Store.image_is_whole c.args.disk.now)
    c.parts.invariant.drawn c.parts.invariant.filled part)
    c.fill_part-2.ensures.written

pub returns-clause-drawn : goal.returns-clause-drawn
returns-clause-drawn g c =
    let words : length (take (c.div_ceil.result * 4) c.parts.buffer) ≡ words_of (c.args.size - c.parts.at)
    = words_long (c.args.size - c.parts.at) c.div_ceil.result c.parts.buffer c.div_ceil.array_long
    (omega (arith, c.parts-test.false)) c.div_ceil.ensures in
    when_ok c.fill_part-2.result (place_more c.args.rng.now c.parts.rng c.fill_part-2.new.rng (c.parts.at - c.args.from)
    (c.args.size - c.parts.at) (length (take (c.div_ceil.result * 4) c.parts.buffer)) (words_of (c.args.size - c.args.from))
    c.parts.invariant.whole words
    (omega (arith, words, c.parts.invariant.whole, c.parts.invariant.behind, c.parts.invariant.inside))
    c.parts.invariant.drawn c.fill_part-2.ensures.drawn)

pub returns-clause-outside : goal.returns-clause-outside
returns-clause-outside g c =
    both_then 0 c.args.from (g.D.Store.size c.parts.disk) (g.D.Store.image c.args.disk.now)
    (g.D.Store.image c.parts.disk) (g.D.Store.image c.fill_part-2.new.disk)
    (omega (arith, c.parts.invariant.size, c.requires.from)) (g.met.D.Store.image_is_whole c.parts.disk)
    (stays_by_writing c.args.from c.args.from (g.D.Store.size c.args.disk.now)
    (fill_bytes c.args.rng.now (c.parts.at - c.args.from)) (g.D.Store.image c.args.disk.now)
    (g.D.Store.image c.parts.disk) (omega arith)
    (omega (arith, length-fill c.args.rng.now (c.parts.at - c.args.from), c.requires.size, c.parts.invariant.inside, c.parts.invariant.behind))
    (g.met.D.Store.image_is_whole c.args.disk.now) c.parts.invariant.filled)
    (both_before c.parts.at (c.args.size - c.parts.at) c.args.from (g.D.Store.image c.parts.disk)
    (g.D.Store.image c.fill_part-2.new.disk) c.parts.invariant.behind c.fill_part-2.ensures.outside)

pub returns-clause-crash : goal.returns-clause-crash
returns-clause-crash g c =
    then_written c.args.from c.args.size c.parts.at (c.args.size - c.parts.at) c.parts.invariant.behind c.requires.from g.D.Store.tells
    (g.D.Store.moment c.args.disk.now) (g.D.Store.moment c.parts.disk) (g.D.Store.moment c.fill_part-2.new.disk)
    (g.D.Store.left_since c.args.disk.now) (g.D.Store.left_since c.parts.disk) (g.D.Store.left_since c.fill_part-2.new.disk)
    (g.D.Store.may_leave c.args.disk.now) (g.D.Store.may_leave c.parts.disk) (g.D.Store.may_leave c.fill_part-2.new.disk)
    c.parts.invariant.crash c.fill_part-2.ensures.crash
