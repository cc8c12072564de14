use Rattle.std.proofs.Common.{◌≡◌, ℕ, List, [], ◌∷◌, ◌++◌, ◌+◌, Option, None, Some, refl, sym, subst}
use Rattle.nbd_session.specs.Sent.{Replied}
use Rattle.nbd_wire.specs.declared.end.End.{End}
use Rattle.pipe_lane.specs.Lanes.{reply_of}
use Rattle.pipe_lane.specs.declared.lane.Reply.{Reply}
use Rattle.pipe_lane.specs.declared.lane.Stage.{Stage}
use Rattle.pipe_lane.specs.declared.lane.Stage.TheVariants as stage
use Rattle.pipe_session.specs.Laws.Sending.{IsSent, replies_in}
use Rattle.pipe_session.proofs.InOrder.{one_refused, one_sent}
use Rattle.pipe_session.proofs.send.send_next.Goals as goal

none_is : (e : Option End) → ((x : End) → e ≡ Some x → ⊥) → e ≡ None
none_is None not = refl
none_is (Some x) not = absurd (not x refl)

-- the reply of a lane that is done
of_done : (held now : Option (List ℕ)) (rs : List (List ℕ)) (n : ℕ) (how : Option End) (s : Stage) (r : Reply) → s ≡ stage.Done r
    → IsSent held now (rs ++ reply_of r ∷ []) n how → IsSent held now (rs ++ replies_in s) n how
of_done held now rs n how s r is sent = subst (λ (x : Stage). IsSent held now (rs ++ replies_in x) n how) (sym is) sent

pub returns-in-Some-send_reply-clause-sent : goal.returns-in-Some-send_reply-clause-sent
returns-in-Some-send_reply-clause-sent g c held rs so_far =
    of_done held (g.O.Sink.contents c.send_reply.new.sink) rs c.args.sent (Some c.in-Some-send_reply.end) c.args.stage c.in-Done.reply c.in-Done.is
    (one_refused held (g.O.Sink.contents c.args.sink.now) (g.O.Sink.contents c.send_reply.new.sink) rs (reply_of c.in-Done.reply) c.args.sent
    c.in-Some-send_reply.end
    (subst (IsSent held (g.O.Sink.contents c.args.sink.now) rs c.args.sent) (none_is c.args.ended c.in_default.not-Some) so_far)
    (subst (Replied (g.O.Sink.contents c.args.sink.now) (g.O.Sink.contents c.send_reply.new.sink) (reply_of c.in-Done.reply)) c.in-Some-send_reply.is
    c.send_reply.ensures.replied))

pub returns-in-Done-clause-sent : goal.returns-in-Done-clause-sent
returns-in-Done-clause-sent g c held rs so_far =
    of_done held (g.O.Sink.contents c.send_reply.new.sink) rs (c.args.sent + 1) None c.args.stage c.in-Done.reply c.in-Done.is
    (one_sent held (g.O.Sink.contents c.args.sink.now) (g.O.Sink.contents c.send_reply.new.sink) rs (reply_of c.in-Done.reply) c.args.sent
    (subst (IsSent held (g.O.Sink.contents c.args.sink.now) rs c.args.sent) (none_is c.args.ended c.in_default.not-Some) so_far)
    (subst (Replied (g.O.Sink.contents c.args.sink.now) (g.O.Sink.contents c.send_reply.new.sink) (reply_of c.in-Done.reply)) c.in-None.is
    c.send_reply.ensures.replied))
