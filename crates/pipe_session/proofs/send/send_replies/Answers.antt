use Rattle.std.proofs.Common.{◌≡◌, ◌≢◌, ◌<◌, ◌+◌, List, ◌++◌, All, get_or, length, map, set, take, refl, sym, ap, ◌∙◌, subst, arith}
use Rattle.std.specs.List.{flat_map}
use Rattle.std.proofs.Math.Seq.{map-set_same}
use Rattle.std.proofs.lemmas.List.{get_or-map, get_or-set_other, length-map, map-set}
use Rattle.std.proofs.lemmas.List.Elements.{All-nil, All-set}
use Rattle.pipe_lane.specs.Lanes.{IsFree, IsLane, stage_in, view_in}
use Rattle.pipe_lane.specs.declared.lane.Stage.{Stage}
use Rattle.pipe_lane.specs.declared.lane.Stage.TheVariants as stage
use Rattle.pipe_session.specs.Laws.Sending.{IsSent, replies_in}
use Rattle.pipe_session.proofs.InOrder.{freed_all, lane_sent, none_sent, one_freed, sent_all}
use Rattle.pipe_session.proofs.send.send_replies.Goals as goal

pub lanes-init : goal.lanes-init
lanes-init g c = record {
  are_lanes = c.requires.lanes;
  views = refl;
  freed = All-nil IsFree;
  others = λ j d le. refl;
  replies = none_sent (g.O.Sink.contents c.args.sink.now);
  few = omega arith;
  cause = record { later = omega arith; rose = λ is. absurd (cc) };
}

pub lanes-preserved : goal.lanes-preserved
lanes-preserved g c =
    let v = c.args.volume.now in let so_far = c.lanes.invariant in
    let lt : c.lanes.i < length c.lanes.lanes = omega arith in
    let d = c.index-lanes-i.result in
    let free : c.replace-stage.new.dest ≡ stage.Free = c.replace-stage.ensures.after in
    let m = record (get_or c.lanes.lanes c.lanes.i d) { stage = c.replace-stage.new.dest } in
    let stages = map stage_in c.lanes.lanes in
    let sized : length (map stage_in c.lanes.lanes) ≡ length c.lanes.lanes = length-map c.lanes.lanes stage_in in
    let within : length (map stage_in c.args.lanes.now) ≡ length c.args.lanes.now = length-map c.args.lanes.now stage_in in record {
      are_lanes = All-set (IsLane v.lock.table.shared.table_id v.geometry v.cipher) c.lanes.lanes c.lanes.i m
          (let old = so_far.are_lanes c.lanes.i d lt in record { pass = old.pass; nothing = old.nothing; bench = old.bench }) so_far.are_lanes;
      views = map-set_same view_in c.lanes.lanes c.lanes.i m d refl ∙ so_far.views;
      freed = subst (λ (l : List Stage). All IsFree (take (c.lanes.i + 1) l))
          (sym (map-set stage_in c.lanes.lanes c.lanes.i m ∙ ap (set (map stage_in c.lanes.lanes) c.lanes.i) free))
          (one_freed (map stage_in c.lanes.lanes) c.lanes.i (omega (arith, lt, sized)) so_far.freed);
      others = λ j e le.
          let isnt : j ≢ c.lanes.i = λ same. absurd (omega (arith, le, same)) in
          ap (λ (l : List Stage). get_or l j e) (map-set stage_in c.lanes.lanes c.lanes.i m)
          ∙ get_or-set_other (map stage_in c.lanes.lanes) c.lanes.i j c.replace-stage.new.dest e isnt ∙ so_far.others j e (omega (arith, le));
      replies = lane_sent (g.O.Sink.contents c.args.sink.now) (g.O.Sink.contents c.lanes.sink) (g.O.Sink.contents c.send_next-count.new.sink)
          (map stage_in c.args.lanes.now) c.lanes.i (stage_in d) c.lanes.sent c.send_next-count.result.0 c.lanes.ended c.send_next-count.result.1
          (omega arith) so_far.replies
          (λ sent. subst (λ (s : Stage). IsSent (g.O.Sink.contents c.args.sink.now) (g.O.Sink.contents c.send_next-count.new.sink)
          (flat_map replies_in (take c.lanes.i (map stage_in c.args.lanes.now)) ++ replies_in s) c.send_next-count.result.0 c.send_next-count.result.1)
          (c.replace-stage.ensures.value ∙ sym (get_or-map stage_in c.lanes.lanes c.lanes.i d (stage_in d) lt) ∙ so_far.others c.lanes.i (stage_in d) (omega arith))
          (c.send_next-count.ensures.sent (g.O.Sink.contents c.args.sink.now) (flat_map replies_in (take c.lanes.i (map stage_in c.args.lanes.now))) sent));
      few = omega (arith, so_far.few, c.send_next-count.ensures.few);
      cause = c.send_next-count.ensures.cause (g.O.Sink.faults c.args.sink.now) so_far.cause;
    }

pub returns-clause-free : goal.returns-clause-free
returns-clause-free g c =
    let sized : length (map stage_in c.lanes.lanes) ≡ length c.lanes.lanes = length-map c.lanes.lanes stage_in in
    freed_all (map stage_in c.lanes.lanes) c.lanes.i (omega arith) c.lanes.invariant.freed

pub returns-clause-sent : goal.returns-clause-sent
returns-clause-sent g c =
    let sized : length (map stage_in c.args.lanes.now) ≡ length c.args.lanes.now = length-map c.args.lanes.now stage_in in
    sent_all (g.O.Sink.contents c.args.sink.now) (g.O.Sink.contents c.lanes.sink) (map stage_in c.args.lanes.now) c.lanes.i c.lanes.sent c.lanes.ended
    (omega arith) c.lanes.invariant.replies
