use Rattle.std.proofs.Common.{ℕ, ◌+◌, ◌-◌, ◌*◌, ◌/◌, ◌≡◌, List, length, take, drop, min, ◌++◌, refl, sym, ap, subst, ◌∙◌, arith}
use Rattle.std.specs.Prelude.{IfSome}
use Rattle.std.proofs.lemmas.List.{take_at}
use Rattle.vc_outside.specs.Told.{Grows, GrowsByFront}
use Rattle.cascade_set.specs.Volume.{plain_units}
use Rattle.vc_outside.proofs.NothingMore.{nothing_more_twice}
use Rattle.vc_app.specs.Laws.Units.{AreUnits}
use Rattle.vc_app.proofs.Growth.{on_ok}
use Rattle.vc_app.proofs.Parts.{written_none, written_more, stopped, written_all}
use Rattle.vc_app.proofs.Units.{plain_of_units, same_units, units_read_whole}
use Rattle.vc_app.proofs.commands.cat.write_units.Given.{Over}
use Rattle.vc_app.proofs.commands.cat.write_units.Goals as goal
use Rattle.vc_app.proofs.commands.cat.write_units.Goals.{After-write_all}

pub parts-init : goal.parts-init
parts-init g c =
    let long : length c.read_at.new.out ≡ c.in-Ok.current.len = c.read_at.auto.out ∙ c.deref_mut.ensures.len in
    let whole : take c.in-Ok.current.len (c.read_at.new.out ++ drop (length c.read_at.new.out) c.in-Ok.current.items) ≡ c.read_at.new.out
    = take_at c.read_at.new.out (drop (length c.read_at.new.out) c.in-Ok.current.items) c.in-Ok.current.len long in
    record {
      begun = omega arith;
      end = omega arith;
      room = ap length whole ∙ long ∙ c.in-Ok.ensures.len ∙ c.bytes_of_part-first.ensures;
      room_ahead = omega (arith, c.in-Ok-vec.ahead.ok.0, c.in-Ok-vec.ensures.len, c.bytes_of_part-second.ensures, c.min.ensures);
      were_read = subst (λ (l : List ℕ). AreUnits (g.D.Store.image c.args.disk.now) c.args.unit l) (sym whole)
          (units_read_whole (g.D.Store.image c.args.disk.now) c.args.unit (length c.deref_mut.result.now) c.read_at.new.out
          c.read_at.auto.out c.in-Ok-read_at.ensures.read);
      written = written_none (g.D.Store.image c.args.disk.now) (g.O.Sink.contents c.args.out.now)
          (g.C.UnitCipher.deciphered c.args.cipher.now) c.args.unit;
      image = c.read_at.ensures.image;
      size = c.read_at.ensures.size;
      crash = c.read_at.ensures.crash;
      disk_later = c.read_at.ensures.cause.later;
      out_later = omega arith;
    }

pub parts-preserved : goal.parts-preserved
parts-preserved g c =
    let full : length c.deref_mut-in-parts.result.now ≡ 2048 * 512
    = omega (arith, c.deref_mut-in-parts.ensures.len, c.parts.current.ok.0, c.parts.invariant.room, c.parts-test.true) in
    let units : length c.deref_mut-in-parts.result.now / 512 ≡ 2048 = omega (arith, full) in
    let next : c.truncate.new.self.len ≡ min (c.parts.left - 2048) 2048 * 512
    = omega (arith, c.truncate.ensures.len, c.parts.ahead.ok.0, c.bytes_of_part-next.ensures, c.parts.invariant.room_ahead) in
    let long : length c.write_part.new.ahead ≡ c.truncate.new.self.len
    = c.write_part.auto.ahead ∙ c.deref_mut-in-parts-2.ensures.len in
    let current : c.swap.new.x.items ≡ c.write_part.new.ahead
    = ap (λ v. v.items) c.swap.ensures.x_after
    ∙ take_at c.write_part.new.ahead (drop (length c.write_part.new.ahead) c.truncate.new.self.items) c.truncate.new.self.len long in
    let ahead : c.swap.new.y.items ≡ c.write_part.new.bytes
    = ap (λ v. v.items) c.swap.ensures.y_after
    ∙ take_at c.write_part.new.bytes (drop (length c.write_part.new.bytes) c.parts.current.items) c.parts.current.len
    (c.write_part.auto.bytes ∙ c.deref_mut-in-parts.ensures.len) in
    record {
      begun = omega (arith, c.parts.invariant.begun);
      end = omega (arith, c.parts.invariant.end, c.parts-test.true);
      room = ap length current ∙ long ∙ next;
      room_ahead = omega (arith, ap length ahead, c.write_part.auto.bytes, full);
      were_read = same_units (g.D.Store.image c.parts.disk) (g.D.Store.image c.args.disk.now)
          (c.parts.at + length c.deref_mut-in-parts.result.now / 512) (c.parts.at + 2048) c.write_part.new.ahead c.swap.new.x.items
          (sym c.parts.invariant.image) (omega (arith, units)) current c.in_ok-write_part.ensures.read;
      written = written_more (g.D.Store.image c.args.disk.now) (g.D.Store.image c.parts.disk)
          (g.O.Sink.contents c.args.out.now) (g.O.Sink.contents c.parts.out) (g.O.Sink.contents c.write_part.new.out)
          (g.C.UnitCipher.deciphered c.args.cipher.now) c.args.unit c.parts.at 2048 (length c.deref_mut-in-parts.result.now / 512)
          c.parts.invariant.begun c.parts.invariant.image units c.parts.invariant.written c.in_ok-write_part.ensures.done;
      image = c.write_part.ensures.image ∙ c.parts.invariant.image;
      size = c.write_part.ensures.size ∙ c.parts.invariant.size;
      crash = nothing_more_twice _ _ _ _ _ _ _ _ _ _
          (λ modelled t b from left. g.met.D.Store.counts_now modelled c.args.disk.now t b from left)
          c.parts.invariant.crash c.write_part.ensures.crash;
      disk_later = omega (arith, c.write_part.ensures.disk_cause.later, c.parts.invariant.disk_later);
      out_later = omega (arith, c.write_part.ensures.out_cause.later, c.parts.invariant.out_later);
    }

pub returns-in_err-write_part-clause-front : goal.returns-in_err-write_part-clause-front
returns-in_err-write_part-clause-front g c =
    let full : length c.deref_mut-in-parts.result.now ≡ 2048 * 512
    = omega (arith, c.deref_mut-in-parts.ensures.len, c.parts.current.ok.0, c.parts.invariant.room, c.parts-test.true) in
    stopped (g.D.Store.image c.args.disk.now) (g.D.Store.image c.parts.disk)
    (g.O.Sink.contents c.args.out.now) (g.O.Sink.contents c.parts.out) (g.O.Sink.contents c.write_part.new.out)
    (g.C.UnitCipher.deciphered c.args.cipher.now) c.args.unit c.parts.at 2048 (length c.deref_mut-in-parts.result.now / 512)
    c.parts.left c.args.count
    c.parts.invariant.begun (omega (arith, c.parts-test.true)) c.parts.invariant.end c.parts.invariant.image
    (omega (arith, full)) c.parts.invariant.written c.write_part.ensures.front

-- whatever holds of the bytes of the last part holds of its plain units
last_plain : (g : Over) (c : After-write_all g) (P : List ℕ → Type 0) → P c.decipher_all.new.buffer
    → IfSome (g.D.Store.image c.args.disk.now) (λ b.
    P (plain_units (g.C.UnitCipher.deciphered c.args.cipher.now) b c.parts.at (length c.as_mut_slice-last.result.now / 512)))
last_plain g c P =
    plain_of_units (g.D.Store.image c.args.disk.now) (g.C.UnitCipher.deciphered c.args.cipher.now) c.as_mut_slice-last.result.now
    c.decipher_all.new.buffer c.parts.at P
    (same_units (g.D.Store.image c.args.disk.now) (g.D.Store.image c.args.disk.now) c.parts.at c.parts.at
    c.parts.current.items c.as_mut_slice-last.result.now refl refl c.as_mut_slice-last.ensures.value c.parts.invariant.were_read)
    c.decipher_all.ensures

-- the last part has all units that are left
last_units : (g : Over) (c : After-write_all g) → length c.as_mut_slice-last.result.now / 512 ≡ c.parts.left
last_units g c =
    let long : length c.as_mut_slice-last.result.now ≡ min c.parts.left 2048 * 512
    = c.as_mut_slice-last.ensures.len ∙ c.parts.current.ok.0 ∙ c.parts.invariant.room in
    omega (arith, long, c.parts-test.false)

pub returns-clause-done : goal.returns-clause-done
returns-clause-done g c =
    let after = (goal.at.returns-clause-done g c).After-write_all in
    let image = g.D.Store.image c.args.disk.now in
    let old = g.O.Sink.contents c.args.out.now in
    let middle = g.O.Sink.contents c.parts.out in
    let new = g.O.Sink.contents c.write_all.new.out in
    let dec = g.C.UnitCipher.deciphered c.args.cipher.now in
    on_ok c.write_all.result (Grows middle new c.decipher_all.new.buffer)
    (IfSome image (λ b. Grows old new (plain_units dec b c.args.unit c.args.count)))
    (λ grown. written_all image old new dec c.args.unit (c.parts.at + c.parts.left) c.args.count c.parts.invariant.end
    (written_more image image old middle new dec c.args.unit c.parts.at c.parts.left (length c.as_mut_slice-last.result.now / 512)
    c.parts.invariant.begun refl (last_units g after) c.parts.invariant.written
    (last_plain g after (λ (x : List ℕ). Grows middle new x) grown)))
    c.write_all.ensures.done

pub returns-clause-front : goal.returns-clause-front
returns-clause-front g c =
    let after = (goal.at.returns-clause-front g c).After-write_all in
    let image = g.D.Store.image c.args.disk.now in
    let middle = g.O.Sink.contents c.parts.out in
    let new = g.O.Sink.contents c.write_all.new.out in
    stopped image image (g.O.Sink.contents c.args.out.now) middle new (g.C.UnitCipher.deciphered c.args.cipher.now)
    c.args.unit c.parts.at c.parts.left (length c.as_mut_slice-last.result.now / 512) c.parts.left c.args.count
    c.parts.invariant.begun (omega arith) c.parts.invariant.end refl (last_units g after) c.parts.invariant.written
    (last_plain g after (λ (x : List ℕ). GrowsByFront middle new x) c.write_all.ensures.front)
