use Rattle.std.proofs.Common.{◌≡◌, ◌≤◌, [], All, None, Some, length, map, get_or, sym, ap, ◌∙◌, subst, arith}
use Rattle.std.proofs.lemmas.List.{length-map}
use Rattle.hist_lock.specs.Known.{view}
use Rattle.vc_base.specs.Faults.{Rose}
use Rattle.pipe_lane.specs.Lanes.{IsFree, stage_in, view_in}
use Rattle.pipe_session.specs.Meeting.{HaveSeen, HaveServed}
use Rattle.pipe_session.specs.Laws.Running.{Waved}
use Rattle.pipe_session.proofs.LastEnd.{refused_no_read}
use Rattle.pipe_session.proofs.OneWave.{all_own, ends_for, ends_unrefused, first_met, none_is, session_ends, wave_on, wave_stops}
use Rattle.pipe_session.proofs.ToldInWaves.{none_done}
use Rattle.pipe_session.proofs.session.pipe.Goals as goal

pub waves-init : goal.waves-init
waves-init g c = let m = c.meet.ensures in record {
  pass = m.pass;
  nothing = m.open;
  are_lanes = m.lanes;
  free = subst (All IsFree) (sym m.stages) c.requires.free;
  seen = m.seen;
  did = (
    [],
    first_met (view c.args.pass.now.seat) (view c.meet.new.pass.seat) (map view_in c.args.lanes.now) (map view_in c.meet.new.lanes) m.met,
    none_done c.args.volume.now.geometry.sector (map (λ v. v.number) (map view_in c.args.lanes.now)) (g.I.Source.left c.args.link.now.source)
        (g.O.Sink.contents c.args.link.now.sink),
  );
  long = sym (length-map c.meet.new.lanes view_in) ∙ m.met.as_many ∙ length-map c.args.lanes.now view_in;
  few = omega arith;
  cause = record { later = omega arith; rose = λ is. absurd (cc) };
  written = omega arith;
}

pub overflow_add-replies : goal.overflow_add-replies
overflow_add-replies g c = omega (arith, c.waves.invariant.few, c.serve_wave-sent.ensures.few)

pub take_wave-found-requires-clause-some : goal.take_wave-found-requires-clause-some
take_wave-found-requires-clause-some g c = omega (arith, c.waves.invariant.long, c.requires.some)

pub take_wave-found-requires-clause-few : goal.take_wave-found-requires-clause-few
take_wave-found-requires-clause-few g c = omega (arith, c.waves.invariant.long, c.requires.few)

pub serve_wave-sent-requires-clause-some : goal.serve_wave-sent-requires-clause-some
serve_wave-sent-requires-clause-some g c κs within = omega (arith, c.take_wave-found.auto.lanes, c.waves.invariant.long, c.requires.some)

pub serve_wave-sent-requires-clause-few : goal.serve_wave-sent-requires-clause-few
serve_wave-sent-requires-clause-few g c κs within = omega (arith, c.take_wave-found.auto.lanes, c.waves.invariant.long, c.requires.few)

pub serve_wave-sent-requires-clause-wave : goal.serve_wave-sent-requires-clause-wave
serve_wave-sent-requires-clause-wave g c κs within =
    let did = c.waves.invariant.did in
    let takes = c.take_wave-found.ensures.taken (g.I.Source.left c.args.link.now.source) did.2.done did.2.heard in (takes.wave, takes.has)

pub waves-preserved : goal.waves-preserved
waves-preserved g c =
    let v = c.args.volume.now in let so_far = c.waves.invariant in let t = c.take_wave-found in let s = c.serve_wave-sent in
    let did = so_far.did in let left = g.I.Source.left c.args.link.now.source in
    let takes = t.ensures.taken left did.2.done did.2.heard in
    let ws = map view_in c.waves.lanes in let ys = map view_in s.new.lanes in let w = view c.waves.pass.seat in let y = view s.new.pass.seat in
    let within : length takes.wave ≤ length t.new.lanes = omega (arith, takes.size, t.ensures.few, t.auto.lanes) in
    let waved = s.ensures.waved takes.wave takes.has within in
    let here = subst (λ us. Waved v.geometry.sector takes.wave w y us ys (g.O.Sink.contents c.waves.link.sink) (g.O.Sink.contents s.new.sink) s.result.0 None)
    t.ensures.views (subst (Waved v.geometry.sector takes.wave w y (map view_in t.new.lanes) ys (g.O.Sink.contents c.waves.link.sink)
    (g.O.Sink.contents s.new.sink) s.result.0) (none_is s.result.1 c.in_default.not-Some) waved) in record {
      pass = s.ensures.pass;
      nothing = s.ensures.open;
      are_lanes = s.ensures.lanes;
      free = s.ensures.free;
      seen = s.ensures.seen;
      did = wave_on v.geometry.sector (length c.waves.lanes) (view c.args.pass.now.seat) w y (map view_in c.args.lanes.now) ws ys left
          (g.I.Source.left c.waves.link.source) (g.I.Source.left t.new.source) (g.O.Sink.contents c.args.link.now.sink)
          (g.O.Sink.contents c.waves.link.sink) (g.O.Sink.contents s.new.sink) c.waves.next t.result.0 did.0 c.waves.replies s.result.0 t.result.1
          (map stage_in t.new.lanes) did.1 did.2 so_far.seen s.ensures.seen (all_own c.waves.lanes (λ k d lt. (get_or c.waves.lanes k d).pass.own))
          (all_own s.new.lanes (λ k d lt. (get_or s.new.lanes k d).pass.own)) takes (omega arith)
          (so_far.long ∙ sym (length-map (map view_in c.args.lanes.now) (λ v. v.number) ∙ length-map c.args.lanes.now view_in)) here;
      long = omega (arith, s.auto.lanes, t.auto.lanes, so_far.long);
      few = omega (arith, so_far.few, s.ensures.few);
      cause = t.ensures.cause (g.I.Source.faults c.args.link.now.source) so_far.cause;
      written = omega (arith, so_far.written, s.ensures.cause.later);
    }

pub returns-then-count-eq0-clause-served : goal.returns-then-count-eq0-clause-served
returns-then-count-eq0-clause-served g c =
    let v = c.args.volume.now in let so_far = c.waves.invariant in let t = c.take_wave-found in let did = so_far.did in
    let left = g.I.Source.left c.args.link.now.source in
    let takes = t.ensures.taken left did.2.done did.2.heard in
    let none : t.result.1 ≡ 0 = omega arith in (
      did.0,
      subst (λ ws. HaveServed (view c.args.pass.now.seat) (view c.waves.pass.seat) (map view_in c.args.lanes.now) ws did.0) (sym t.ensures.views) did.1,
      session_ends v.geometry.sector (length c.waves.lanes) (map (λ v. v.number) (map view_in c.args.lanes.now)) left
          (g.I.Source.left c.waves.link.source) (g.I.Source.left t.new.source) (g.O.Sink.contents c.args.link.now.sink)
          (g.O.Sink.contents c.waves.link.sink) c.waves.next t.result.0 c.end_of.result did.0 c.waves.replies t.result.1
          (map stage_in t.new.lanes) did.2 takes none c.end_of.ensures (Rose (g.I.Source.faults c.args.link.now.source) (g.I.Source.faults t.new.source)),
    )

pub returns-then-count-eq0-clause-free : goal.returns-then-count-eq0-clause-free
returns-then-count-eq0-clause-free g c j d lt =
    let t = c.take_wave-found in let did = c.waves.invariant.did in
    let takes = t.ensures.taken (g.I.Source.left c.args.link.now.source) did.2.done did.2.heard in
    let none : t.result.1 ≡ 0 = omega arith in
    takes.has.free j d (omega (arith, takes.size, none)) lt

pub returns-then-count-eq0-clause-seen : goal.returns-then-count-eq0-clause-seen
returns-then-count-eq0-clause-seen g c =
    subst (HaveSeen (view c.waves.pass.seat)) (sym c.take_wave-found.ensures.views) c.waves.invariant.seen

pub returns-then-count-eq0-clause-read_fault : goal.returns-then-count-eq0-clause-read_fault
returns-then-count-eq0-clause-read_fault g c =
    let v = c.args.volume.now in let so_far = c.waves.invariant in let t = c.take_wave-found in let did = so_far.did in
    let left = g.I.Source.left c.args.link.now.source in
    let takes = t.ensures.taken left did.2.done did.2.heard in
    let none : t.result.1 ≡ 0 = omega arith in
    let cause = t.ensures.cause (g.I.Source.faults c.args.link.now.source) so_far.cause in record {
      later = cause.later;
      rose = λ is. cause.rose (ends_for v.geometry.sector (length c.waves.lanes) left (g.I.Source.left t.new.source) did.2.done c.waves.next t.result.0
          c.end_of.result t.result.1 (map stage_in t.new.lanes) takes none c.end_of.ensures is);
    }

pub returns-then-count-eq0-clause-write_fault : goal.returns-then-count-eq0-clause-write_fault
returns-then-count-eq0-clause-write_fault g c =
    let v = c.args.volume.now in let so_far = c.waves.invariant in let t = c.take_wave-found in let did = so_far.did in
    let left = g.I.Source.left c.args.link.now.source in
    let takes = t.ensures.taken left did.2.done did.2.heard in
    let none : t.result.1 ≡ 0 = omega arith in record {
      later = so_far.written;
      rose = λ is. absurd (ends_unrefused v.geometry.sector (length c.waves.lanes) (map (λ v. v.number) (map view_in c.args.lanes.now)) left
          (g.I.Source.left c.waves.link.source) (g.I.Source.left t.new.source) (g.O.Sink.contents c.args.link.now.sink)
          (g.O.Sink.contents c.waves.link.sink) c.waves.next t.result.0 c.end_of.result did.0 c.waves.replies t.result.1
          (map stage_in t.new.lanes) did.2 takes none c.end_of.ensures is);
    }

pub returns-in-Some-clause-served : goal.returns-in-Some-clause-served
returns-in-Some-clause-served g c =
    let v = c.args.volume.now in let so_far = c.waves.invariant in let t = c.take_wave-found in let s = c.serve_wave-sent in
    let did = so_far.did in let left = g.I.Source.left c.args.link.now.source in
    let takes = t.ensures.taken left did.2.done did.2.heard in
    let ws = map view_in c.waves.lanes in let ys = map view_in s.new.lanes in let w = view c.waves.pass.seat in let y = view s.new.pass.seat in
    let within : length takes.wave ≤ length t.new.lanes = omega (arith, takes.size, t.ensures.few, t.auto.lanes) in
    let waved = s.ensures.waved takes.wave takes.has within in
    let here = subst (λ us. Waved v.geometry.sector takes.wave w y us ys (g.O.Sink.contents c.waves.link.sink) (g.O.Sink.contents s.new.sink) s.result.0
    (Some c.in-Some.end))
    t.ensures.views (subst (Waved v.geometry.sector takes.wave w y (map view_in t.new.lanes) ys (g.O.Sink.contents c.waves.link.sink)
    (g.O.Sink.contents s.new.sink) s.result.0) c.in-Some.is waved) in
    wave_stops v.geometry.sector (length c.waves.lanes) (view c.args.pass.now.seat) w y (map view_in c.args.lanes.now) ws ys left
    (g.I.Source.left c.waves.link.source) (g.I.Source.left t.new.source) (g.O.Sink.contents c.args.link.now.sink)
    (g.O.Sink.contents c.waves.link.sink) (g.O.Sink.contents s.new.sink) c.waves.next t.result.0 did.0 c.waves.replies s.result.0 t.result.1
    (map stage_in t.new.lanes) did.1 did.2 so_far.seen s.ensures.seen (all_own c.waves.lanes (λ k d lt. (get_or c.waves.lanes k d).pass.own))
    (all_own s.new.lanes (λ k d lt. (get_or s.new.lanes k d).pass.own)) takes (omega arith)
    (so_far.long ∙ sym (length-map (map view_in c.args.lanes.now) (λ v. v.number) ∙ length-map c.args.lanes.now view_in))
    c.in-Some.end here (Rose (g.I.Source.faults c.args.link.now.source) (g.I.Source.faults t.new.source))
    (t.ensures.cause (g.I.Source.faults c.args.link.now.source) so_far.cause).rose

pub returns-in-Some-clause-read_fault : goal.returns-in-Some-clause-read_fault
returns-in-Some-clause-read_fault g c =
    let v = c.args.volume.now in let so_far = c.waves.invariant in let t = c.take_wave-found in let s = c.serve_wave-sent in
    let did = so_far.did in let takes = t.ensures.taken (g.I.Source.left c.args.link.now.source) did.2.done did.2.heard in
    let within : length takes.wave ≤ length t.new.lanes = omega (arith, takes.size, t.ensures.few, t.auto.lanes) in
    let here = subst (Waved v.geometry.sector takes.wave (view c.waves.pass.seat) (view s.new.pass.seat) (map view_in t.new.lanes) (map view_in s.new.lanes)
    (g.O.Sink.contents c.waves.link.sink) (g.O.Sink.contents s.new.sink) s.result.0) c.in-Some.is (s.ensures.waved takes.wave takes.has within) in record {
      later = (t.ensures.cause (g.I.Source.faults c.args.link.now.source) so_far.cause).later;
      rose = λ is. absurd (refused_no_read c.in-Some.end here.sent.cause is);
    }

pub returns-in-Some-clause-write_fault : goal.returns-in-Some-clause-write_fault
returns-in-Some-clause-write_fault g c =
    let so_far = c.waves.invariant in let s = c.serve_wave-sent in record {
      later = omega (arith, so_far.written, s.ensures.cause.later);
      rose = λ is.
          let r : Rose (g.O.Sink.faults c.waves.link.sink) (g.O.Sink.faults s.new.sink) = s.ensures.cause.rose (c.in-Some.is ∙ ap Some is) in
          omega (arith, so_far.written, r);
    }
