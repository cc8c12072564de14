use Rattle.std.proofs.Common.{◌≡◌, ◌<◌, ◌+◌, true, [], ◌++◌, length, get_or, map, set, take, refl, sym, ap, ◌∙◌, subst, arith}
use Rattle.std.proofs.Math.Seq.{map-set_same}
use Rattle.std.proofs.lemmas.List.{length-map, length-set, map-set, take_more_set}
use Rattle.std.proofs.lemmas.List.Elements.{All-set}
use Rattle.vc_layout.specs.declared.geometry.Geometry.{Geometry}
use Rattle.nbd_session.proofs.Acted.{of_some}
use Rattle.nbd_session.proofs.NoHead.{none_by}
use Rattle.nbd_wire.specs.declared.end.End.TheVariants as end
use Rattle.pipe_lane.specs.Lanes.{IsLane, stage_in, view_in}
use Rattle.pipe_lane.specs.declared.lane.Stage.TheVariants as stage
use Rattle.pipe_lane.specs.declared.queued.Next.{Next}
use Rattle.pipe_lane.specs.declared.queued.Next.TheVariants as next
use Rattle.pipe_session.specs.Laws.Taking.{TakesWave}
use Rattle.pipe_session.specs.Waves.{joins}
use Rattle.pipe_session.proofs.WaveIsTaken.{alone_in, ends_here, find_is, none_taken, one_in, taken_full}
use Rattle.pipe_session.proofs.take.take_wave.Goals as goal

nothing_over : next.Unknown ≡ next.Over end.ReadFault → ⊥
nothing_over is = cc

pub lanes-init : goal.lanes-init
lanes-init g c = record {
  are_lanes = c.requires.lanes;
  room = refl;
  views = refl;
  took = λ left fs is. none_taken c.args.volume.now.geometry.sector (length c.args.lanes.now) left (g.I.Source.left c.args.source.now) fs c.args.first
      (map stage_in c.args.lanes.now) is c.requires.free;
  cause = λ before is. is;
}

pub lanes-preserved : goal.lanes-preserved
lanes-preserved g c =
    let v = c.args.volume.now in let so_far = c.lanes.invariant in
    let lt : c.lanes.k < length c.lanes.lanes = omega arith in
    let room : c.lanes.k < length c.lanes.asks = omega (arith, so_far.room) in
    let d = c.index-lanes-k.result in let q = c.in-Some.queued in
    let m = record (get_or c.lanes.lanes c.lanes.k d) { stage = stage.Waits q } in
    let is = of_some (λ q. (c.find_next-found.result ≡ next.Asked q) × (c.take_out-taken.result.1 ≡ next.Unknown)
    × (0 < length (take c.lanes.k c.lanes.asks) → joins (length c.args.lanes.now) (take c.lanes.k c.lanes.asks) q.ask ≡ true))
    c.take_out-taken.result.0 q c.in-Some.is c.take_out-taken.ensures.taken in record {
      are_lanes = All-set (IsLane v.lock.table.shared.table_id v.geometry v.cipher) c.lanes.lanes c.lanes.k m
          (let old = so_far.are_lanes c.lanes.k d lt in record { pass = old.pass; nothing = old.nothing; bench = old.bench }) so_far.are_lanes;
      room = length-set c.lanes.asks c.lanes.k q.ask ∙ so_far.room;
      views = map-set_same view_in c.lanes.lanes c.lanes.k m d refl ∙ so_far.views;
      took = λ left fs here. let s = so_far.took left fs here in
          one_in v.geometry.sector (length c.args.lanes.now) left (g.I.Source.left c.lanes.source) (g.I.Source.left c.find_next-found.new.source) fs
          c.args.first c.lanes.next c.find_next-found.result c.take_out-taken.result.1 (map stage_in c.lanes.lanes)
          (map stage_in (set c.lanes.lanes c.lanes.k m)) c.lanes.k (take c.lanes.k c.lanes.asks)
          (take (c.lanes.k + 1) (set c.lanes.asks c.lanes.k q.ask)) s
          (find_is c.geometry-sector.result.sector v.geometry.sector (ap (λ (x : Geometry). x.sector) c.geometry-sector.ensures) left
          (g.I.Source.left c.lanes.source) (g.I.Source.left c.find_next-found.new.source) (fs ++ s.wave) c.lanes.next c.find_next-found.result
          (c.find_next-found.ensures.is left (fs ++ s.wave)) s.heard)
          c.find_next-found.ensures.same q is (omega (arith, lt, length-map c.lanes.lanes stage_in))
          (map-set stage_in c.lanes.lanes c.lanes.k m) (take_more_set c.lanes.asks c.lanes.k q.ask room);
      cause = λ before cause. record {
        later = (c.find_next-found.ensures.cause before (so_far.cause before cause)).later;
        rose = λ over. absurd (nothing_over (sym is.1 ∙ over));
      };
    }

pub returns-in_default-clause-taken : goal.returns-in_default-clause-taken
returns-in_default-clause-taken g c left fs here =
    let v = c.args.volume.now in let s = c.lanes.invariant.took left fs here in
    let r = c.take_out-taken.ensures.left (none_by c.take_out-taken.result.0 c.in_default.not-Some) in
    subst (λ (n : Next). TakesWave v.geometry.sector (length c.args.lanes.now) left (g.I.Source.left c.find_next-found.new.source) fs c.args.first n
    (map stage_in c.lanes.lanes) c.lanes.k) (sym r.0)
    (ends_here v.geometry.sector (length c.args.lanes.now) left (g.I.Source.left c.lanes.source) (g.I.Source.left c.find_next-found.new.source) fs
    c.args.first c.lanes.next c.find_next-found.result (map stage_in c.lanes.lanes) c.lanes.k (take c.lanes.k c.lanes.asks) s
    (find_is c.geometry-sector.result.sector v.geometry.sector (ap (λ (x : Geometry). x.sector) c.geometry-sector.ensures) left
    (g.I.Source.left c.lanes.source) (g.I.Source.left c.find_next-found.new.source) (fs ++ s.wave) c.lanes.next c.find_next-found.result
    (c.find_next-found.ensures.is left (fs ++ s.wave)) s.heard)
    c.find_next-found.ensures.same c.find_next-found.ensures.known r.1)

pub returns-then-not-is_transfer-clause-lanes : goal.returns-then-not-is_transfer-clause-lanes
returns-then-not-is_transfer-clause-lanes g c =
    let v = c.args.volume.now in let so_far = c.lanes.invariant in
    let lt : c.lanes.k < length c.lanes.lanes = omega arith in
    let d = c.index-lanes-k.result in
    let m = record (get_or c.lanes.lanes c.lanes.k d) { stage = stage.Waits c.in-Some.queued } in
    All-set (IsLane v.lock.table.shared.table_id v.geometry v.cipher) c.lanes.lanes c.lanes.k m
    (let old = so_far.are_lanes c.lanes.k d lt in record { pass = old.pass; nothing = old.nothing; bench = old.bench }) so_far.are_lanes

pub returns-then-not-is_transfer-clause-taken : goal.returns-then-not-is_transfer-clause-taken
returns-then-not-is_transfer-clause-taken g c left fs here =
    let v = c.args.volume.now in let s = c.lanes.invariant.took left fs here in
    let lt : c.lanes.k < length c.lanes.lanes = omega arith in
    let d = c.index-lanes-k.result in let q = c.in-Some.queued in
    let m = record (get_or c.lanes.lanes c.lanes.k d) { stage = stage.Waits q } in
    let is = of_some (λ q. (c.find_next-found.result ≡ next.Asked q) × (c.take_out-taken.result.1 ≡ next.Unknown)
    × (0 < length (take c.lanes.k c.lanes.asks) → joins (length c.args.lanes.now) (take c.lanes.k c.lanes.asks) q.ask ≡ true))
    c.take_out-taken.result.0 q c.in-Some.is c.take_out-taken.ensures.taken in
    alone_in v.geometry.sector (length c.args.lanes.now) left (g.I.Source.left c.lanes.source) (g.I.Source.left c.find_next-found.new.source) fs
    c.args.first c.lanes.next c.find_next-found.result c.take_out-taken.result.1 (map stage_in c.lanes.lanes)
    (map stage_in (set c.lanes.lanes c.lanes.k m)) c.lanes.k (take c.lanes.k c.lanes.asks) [] s
    (find_is c.geometry-sector.result.sector v.geometry.sector (ap (λ (x : Geometry). x.sector) c.geometry-sector.ensures) left
    (g.I.Source.left c.lanes.source) (g.I.Source.left c.find_next-found.new.source) (fs ++ s.wave) c.lanes.next c.find_next-found.result
    (c.find_next-found.ensures.is left (fs ++ s.wave)) s.heard)
    c.find_next-found.ensures.same q is (omega (arith, lt, length-map c.lanes.lanes stage_in))
    (map-set stage_in c.lanes.lanes c.lanes.k m) (sym c.is_transfer.ensures ∙ c.if-not-is_transfer.true)

pub returns-clause-taken : goal.returns-clause-taken
returns-clause-taken g c left fs here =
    let all : c.lanes.k ≡ length c.args.lanes.now = omega arith in
    subst (TakesWave c.args.volume.now.geometry.sector (length c.args.lanes.now) left (g.I.Source.left c.lanes.source) fs c.args.first c.lanes.next
    (map stage_in c.lanes.lanes)) all
    (taken_full c.args.volume.now.geometry.sector (length c.args.lanes.now) left (g.I.Source.left c.lanes.source) fs c.args.first c.lanes.next
    (map stage_in c.lanes.lanes) c.lanes.k (take c.lanes.k c.lanes.asks) (c.lanes.invariant.took left fs here) all (omega (arith, c.requires.some)))
