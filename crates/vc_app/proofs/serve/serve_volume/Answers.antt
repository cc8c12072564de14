use Rattle.std.proofs.Common.{◌≡◌, ℕ, List, inl, inr, subst, arith}
use Rattle.hist_lock.specs.Known.{view}
use Rattle.vc_app.specs.declared.status.Status.{Status}
use Rattle.vc_outside.specs.Told.{Grows, GrowsByFront}
use Rattle.vc_app.specs.Serve.{ends_status, EndsBy, lines}
use Rattle.vc_app.proofs.ServedVolume.{as_many_counts, as_many_ends, as_many_hands, base_is, same_length, served_by, whose_in}
use Rattle.vc_app.proofs.serve.serve_volume.Goals as goal

pub end_call-status-requires-clause-few : goal.end_call-status-requires-clause-few
end_call-status-requires-clause-few g c = omega (
  arith,
  c.requires.few,
  as_many_ends g.I.Source g.O.Sink _ _ _ _ _ _ _ _ _ c.in-Ok.ensures.served,
)

pub end_call-status-requires-clause-hands_as_long : goal.end_call-status-requires-clause-hands_as_long
end_call-status-requires-clause-hands_as_long g c = same_length _ _ _ _ c.deref.ensures.value c.deref-in-Ok.ensures.value
    (as_many_hands g.I.Source g.O.Sink _ _ _ _ _ _ _ _ _ c.in-Ok.ensures.served)

pub end_call-status-requires-clause-as_long : goal.end_call-status-requires-clause-as_long
end_call-status-requires-clause-as_long g c = same_length _ _ _ _ c.deref-in-Ok-2.ensures.value c.deref-in-Ok.ensures.value
    (as_many_counts g.I.Source g.O.Sink _ _ _ _ _ _ _ _ _ c.in-Ok.ensures.served)

pub returns-in-Ok : goal.returns-in-Ok
returns-in-Ok g c disk =
    let e = c.in-Ok.ensures in
    let k = c.close_whole-disk.ensures in
    let s = c.end_call-status.ensures in
    let old = g.P.Sink.contents c.args.out in
    let new = g.P.Sink.contents c.end_call-status.new.out in
    let said : lines 0 c.deref.result.now c.deref-in-Ok.result.now c.deref-in-Ok-2.result.now
    ≡ lines 0 c.in-Ok.hands.items c.in-Ok.served.ends.items c.in-Ok.served.replies.items
    = λ i. lines 0 (c.deref.ensures.value i) (c.deref-in-Ok.ensures.value i) (c.deref-in-Ok-2.ensures.value i) in
    let status : ends_status 0 c.deref.result.now c.deref-in-Ok.result.now ≡ ends_status 0 c.in-Ok.hands.items c.in-Ok.served.ends.items
    = λ i. ends_status 0 (c.deref.ensures.value i) (c.deref-in-Ok.ensures.value i) in
    record {
      same = base_is (view c.args.pass.seat) (view c.serve_clients.new.pass.seat) (view c.close_whole-disk.result.1.seat) e.same k.pass;
      ran = record {
        history = record {
          left = c.close_whole-disk.result.0;
          state = k.left;
          image = s.image;
          size = s.size;
          crash = s.crash;
          later = s.disk_fault.later;
        };
        outcome = inl (record {
          served = served_by g.I.Source g.O.Sink c.args.handshake (view c.serve_clients.new.pass.seat) (view c.close_whole-disk.result.1.seat) _ _ k.left.base
              _ _ _ _ _ _ e.pass.1 k.pass k.left.is e.served;
          callers = e.callers.apart;
          whose = whose_in (view c.args.pass.seat) (view c.serve_clients.new.pass.seat) (view c.close_whole-disk.result.1.seat) _
              c.requires.first e.same e.settled e.under k.pass k.callers;
          statuses = subst (λ (t : Status). EndsBy t c.end_call-status.result) status s.statuses;
          printed = subst (λ (xs : List ℕ). GrowsByFront old new xs) said s.printed;
          all_printed = λ done. subst (λ (xs : List ℕ). Grows old new xs) said (s.all_printed done);
          clients_printed = λ of_client. elim (s.clients_printed of_client) [
            | inl all ↦ inl (subst (λ (xs : List ℕ). Grows old new xs) said all)
            | inr rose ↦ inr rose
          ];
          quiet_fault = s.quiet_fault;
          synced = s.synced;
          disk_fault = s.disk_fault;
          out_fault = s.out_fault;
        });
      };
    }
